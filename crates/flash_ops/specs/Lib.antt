pub mod Moves
pub mod Asked
pub mod Shown
pub mod Told
pub mod Periods
