-- In reading order: the algebra, the CRC, the entry, the choice, the next entry.
pub mod Polynomial
pub mod Crc
pub mod Entry
pub mod Choice
pub mod Next
