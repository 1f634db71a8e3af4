-- Crates above cite these lemmas.
pub mod RuleLemmas
mod PageLemmas
mod FollowLemmas
mod JoinLemmas
pub mod WriteLemmas
pub mod EraseLemmas
pub mod PartLemmas
pub mod OpenLemmas
