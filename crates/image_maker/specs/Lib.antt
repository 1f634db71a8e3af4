pub mod Plan
pub mod PlanText
pub mod Lines
pub mod Placing
pub mod Parts
pub mod Sizes
pub mod Refused
pub mod Image
