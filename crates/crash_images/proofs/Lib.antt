pub mod TearLaws
pub mod LeftLaws
pub mod LeftOf
pub mod AgreesLaws
pub mod CutLaws
mod Told
mod FlakyLaws
