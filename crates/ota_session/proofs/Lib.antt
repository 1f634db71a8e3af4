-- Base first. Crates above cite these lemmas.
pub mod NumberLemmas
pub mod ImageLemmas
pub mod PartLemmas
pub mod ViewLemmas
pub mod OpeningLemmas
pub mod BootLemmas
pub mod ReadLemmas
pub mod MomentLemmas
pub mod MoveLemmas
pub mod SessionLemmas
pub mod StageLemmas
pub mod CountLemmas
pub mod EntryLemmas
pub mod ReadBackLemmas
pub mod SealLemmas
