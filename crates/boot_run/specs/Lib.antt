-- In reading order: steps on a device, the steps of a rewrite and of a boot, the entries of a
-- device, what verifying tells, what is held above a level, what a loss of power leaves, what a boot
-- answers, what is left of a pair, what a confirmation under anti-rollback leaves.
pub mod Made
pub mod Rewriting
pub mod BootSteps
pub mod Read
pub mod Verified
pub mod Above
pub mod Crashed
pub mod Booted
pub mod Verdict
pub mod Aim
pub mod Paired
pub mod Raised
