-- In reading order: changes and the map that they make, the slots of a bank, the two banks, the steps
-- of the calls, and what a loss of power leaves.
pub mod Changes
pub mod Slots
pub mod Rows
pub mod Banks
pub mod Steps
pub mod Left
