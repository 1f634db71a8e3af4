-- Where the checksum byte ends.
use Rattle.std.specs.Prelude.{◌≡◌, ℕ, ◌+◌, ◌*◌, ◌/◌, ◌%◌, ◌<◌, ◌≤◌}

-- the least multiple of 16 above a number
abbrev pub footer_end : ℕ → ℕ
footer_end n = (n / 16 + 1) * 16

-- a place is a multiple of 16 above a number, and there is none below it
pub record IsLeastAbove (n place : ℕ) : Type 0 where
  pub multiple : place % 16 ≡ 0
  pub above : n < place
  pub least : (other : ℕ) → other % 16 ≡ 0 → n < other → place ≤ other
