pub mod Tear
pub mod TearStep
pub mod Crash
pub mod Agrees
pub mod Cut
pub mod Flaky
