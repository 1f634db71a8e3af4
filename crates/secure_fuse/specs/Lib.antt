pub mod Bits
pub mod Fuses
pub mod Ram
pub mod Secure
