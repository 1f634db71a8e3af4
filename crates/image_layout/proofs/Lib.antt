mod Bytes
mod HeadLemmas
mod HeaderLemmas
mod FooterLemmas
