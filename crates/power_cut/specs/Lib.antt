-- In reading order: the device, how it refuses, how many steps were begun, a leg of two cores, what
-- holds of the flash meanwhile, what a runner has to keep, a whole update, what stands behind its
-- data, the flash of an update in which nothing broke off, how many steps it has, the flash that a cut
-- leaves, bytes that are copied back, and a sweep.
pub mod Device
pub mod Refused
pub mod Counts
pub mod Leg
pub mod Update
pub mod Kept
pub mod Whole
pub mod Behind
pub mod Installed
pub mod StepCount
pub mod CutFlash
pub mod Restoring
pub mod Sweep
