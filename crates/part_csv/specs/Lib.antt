-- In reading order: a field, what a column spells, the whole source.
pub mod Trim
pub mod Words
pub mod Source
