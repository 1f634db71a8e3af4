mod PolynomialLemmas
mod CrcLemmas
pub mod EntryLemmas
pub mod ChoiceLemmas
pub mod NextLemmas
