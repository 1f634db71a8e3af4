-- Base first. Crates above cite these lemmas.
pub mod BehindLemmas
pub mod EndsLemmas
pub mod ChosenLemmas
pub mod WholeLemmas
pub mod TrialLemmas
pub mod LogLemmas
pub mod LegLemmas
pub mod MergeLemmas
pub mod CountLemmas
pub mod InstalledLemmas
pub mod EmptyLemmas
pub mod OpensLemmas
pub mod BesideLemmas
pub mod LaidLemmas
pub mod RestoringLemmas
pub mod SweepLemmas
