pub mod Places
pub mod Walk
pub mod Bad
pub mod Held
pub mod Seen
pub mod Fed
pub mod Info
