-- Crates above cite these lemmas.
pub mod BootLemmas
pub mod VerdictLemmas
pub mod VoteLemmas
pub mod ChanceLemmas
pub mod PairLemmas
pub mod UpdateLemmas
pub mod LifeLemmas
pub mod EntriesLemmas
pub mod TruthLemmas
