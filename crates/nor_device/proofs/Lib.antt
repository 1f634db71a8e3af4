pub mod Splice
pub mod FlashLaws
pub mod EraseLaws
pub mod TornLaws
pub mod Missed
mod MarksLemmas
mod CoverLemmas
mod ReadLemmas
mod MarkLaws
