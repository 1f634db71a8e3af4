pub mod Space
pub mod Footer
pub mod Header
pub mod Segment
pub mod Description
pub mod Whole
