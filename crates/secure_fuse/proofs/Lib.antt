pub mod BitLemmas
mod OnlyLemmas
pub mod StageLemmas
