pub mod PageLemmas
pub mod StepsLemmas
pub mod ShareLemmas
pub mod OpenLemmas
mod AskLemmas
mod ActLemmas
pub mod WorkLemmas
mod RoomLemmas
mod FreshLemmas
mod PlaceLemmas
mod DriverRoomLemmas
mod ShareEndLemmas
mod DriveLemmas
mod BeginLemmas
mod HoldsLemmas
mod ParkedLemmas
mod OutcomeLemmas
mod NumberLemmas
mod DuoLemmas
mod DrivingLemmas
mod WriteAllLemmas
mod PacedLemmas
pub mod TakenLemmas
pub mod LegCountLemmas
pub mod TakenLegs
pub mod FewStepsLemmas
pub mod OpeningLemmas
pub mod TakenTrials
pub mod BegunLemmas
pub mod BrokenLemmas
