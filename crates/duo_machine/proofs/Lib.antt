pub mod EachEvent
pub mod StepKeeps
pub mod RunLemmas
pub mod Waits
pub mod WayHome
pub mod EachWay
