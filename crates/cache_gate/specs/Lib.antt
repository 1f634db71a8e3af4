pub mod Works
pub mod Own
pub mod Rounds
pub mod Said
