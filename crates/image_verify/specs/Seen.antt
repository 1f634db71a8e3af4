-- What is kept of the bytes that came: their number, and the first 112.
use Rattle.std.specs.Prelude.{◌≡◌, ℕ, List, length, take}
use Rattle.image_verify.specs.declared.seen.Seen.{Seen}
use Rattle.image_verify.specs.Bad.{counted}

-- these bytes came
pub record IsSeen (seen : Seen) (bytes : List ℕ) : Type 0 where
  pub count : seen.count ≡ counted (length bytes)
  pub front : seen.front.items ≡ take 112 bytes
