-- In reading order: what is named, what is tried, what is settled, what an update writes, what a
-- flash says of all that.
pub mod Choice
pub mod Candidates
pub mod Settled
pub mod Target
pub mod Boots
