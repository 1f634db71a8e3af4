-- In reading order: a row, the first of a kind, the rules, the whole text, what a bootloader finds.
pub mod Row
pub mod First
pub mod Rules
pub mod Table
pub mod Find
pub mod Layout
