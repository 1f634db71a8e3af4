-- In reading order: the steps of an update, what a loss of power leaves of them, and what stands
-- beside another core.
pub mod Driver
pub mod Session
pub mod Beside
