mod JoinedLemmas
mod RefusedLemmas
mod PlacingLemmas
mod WholeLemmas
mod ReadLemmas
mod PlanLemmas
mod MemoryLemmas
mod LineLemmas
