pub mod Views
pub mod Story
pub mod Rule
pub mod Told
