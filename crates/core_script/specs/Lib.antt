pub mod Action
pub mod ScriptText
pub mod Lines
