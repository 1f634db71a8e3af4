pub mod Place
pub mod Runs
pub mod Map
pub mod View
pub mod Calls
