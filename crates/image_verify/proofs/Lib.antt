mod First
mod Reading
mod WalkText
mod WalkEnds
mod HeaderFacts
mod PlanFacts
pub mod WholeFacts
mod Longer
mod KeepFacts
mod Noted
mod Steps
mod HeadSteps
mod HeaderSteps
mod Bounds
mod EndFacts
mod VerifierFacts
pub mod HeldFacts
pub mod SlotFacts
