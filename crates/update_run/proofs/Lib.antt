-- Lemmas on the words of specs/. Crates above cite those that are public.
pub mod DeviceLemmas
pub mod OpeningLemmas
pub mod OpenedLemmas
pub mod EndLemmas
pub mod CountLemmas
pub mod CutLemmas
pub mod RunLemmas
pub mod PacedLemmas
pub mod DoneLemmas
pub mod UpdateLaws
pub mod SweepCountLemmas
pub mod SweepLemmas
pub mod AimLaws
pub mod CutLaws
pub mod MomentLaws
