-- In reading order: options and device, what an update begins with, its legs, what it comes to, what the
-- pace is told, a sweep, and the laws.
pub mod Options
pub mod Device
pub mod Opening
pub mod Legs
pub mod Updating
pub mod Paced
pub mod Sweeping
pub mod UpdateLaws
pub mod Moments
pub mod CutLaws
