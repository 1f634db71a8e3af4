-- What contracts say of the two ends of the program: where files come from, and where text goes.
pub mod Fault
pub mod Store
pub mod Sink
pub mod Calls
pub mod MemStore
pub mod MemSink
pub mod Hex
pub mod Number
pub mod Words
