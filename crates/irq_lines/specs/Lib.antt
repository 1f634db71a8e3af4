pub mod Views
pub mod Story
pub mod Rule
pub mod Told
pub mod Counts
pub mod Deliverable
