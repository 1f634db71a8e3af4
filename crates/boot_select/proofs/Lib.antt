-- Crates above cite these lemmas.
pub mod CandidateLemmas
pub mod SettledLemmas
pub mod StartLemmas
pub mod TargetLemmas
