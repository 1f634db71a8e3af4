pub mod StreamLemmas
pub mod PartLemmas
pub mod FrameLemmas
pub mod HashLemmas
pub mod LoadLemmas
pub mod WorkLemmas
