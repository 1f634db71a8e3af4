-- Base first. Crates above cite these lemmas.
pub mod DataLemmas
pub mod SessionLemmas
pub mod BesideLemmas
pub mod SparedLemmas
pub mod StepLemmas
pub mod VerdictLemmas
pub mod TableLemmas
pub mod ApartLemmas
