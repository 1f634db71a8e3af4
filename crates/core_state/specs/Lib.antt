pub mod Registers
pub mod Sharing
pub mod TwoSeats
