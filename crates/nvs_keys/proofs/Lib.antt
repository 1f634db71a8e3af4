-- Base first. Crates above cite these lemmas.
pub mod MapLemmas
pub mod SlotLemmas
pub mod PutLemmas
pub mod CopyLemmas
pub mod ActiveLemmas
pub mod ChangeLemmas
pub mod ExchangeLemmas
pub mod FormatLemmas
pub mod CallLemmas
mod CodeLemmas
mod StepLemmas
