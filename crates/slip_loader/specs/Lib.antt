-- In reading order: the frames of a stream, what a request asks for, what it is answered, and what a
-- whole stream makes.
pub mod Frames
pub mod FrameView
pub mod Plans
pub mod PlanFacts
pub mod Answers
pub mod Loads
pub mod View
pub mod LoaderView
