-- Base first. Crates above cite these lemmas.
mod Steps
pub mod RuleLemmas
pub mod FirstLemmas
pub mod RowLemmas
pub mod TableLemmas
pub mod LayoutLemmas
