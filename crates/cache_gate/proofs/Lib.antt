pub mod Walks
pub mod Taken
pub mod States
pub mod Rooms
