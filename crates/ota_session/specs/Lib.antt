-- In reading order: what an update is for and how far it has come; how a duty shows it; which step has
-- a number; the laws of the duty, which its `impl` cites; the moves and the stages of a session, and the
-- answers of its calls.
pub mod Course
pub mod DutyView
pub mod Numbers
pub mod GoodLaws
pub mod DutyLaws
pub mod Stages
pub mod SessionTold
