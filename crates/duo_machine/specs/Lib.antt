pub mod Machine
pub mod Table
pub mod Safe
pub mod Runs
pub mod WaysOut
