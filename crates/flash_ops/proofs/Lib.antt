-- Crates above cite these lemmas.
pub mod Runs
pub mod Counts
pub mod Telling
pub mod Changes
pub mod Can
pub mod Pieces
pub mod Bytes
pub mod PeriodLemmas
