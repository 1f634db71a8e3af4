-- What was read, as a core knows it: by its base and its own share.
use Rattle.std.specs.Prelude.{◌≡◌, ℕ, ◌+◌, ◌<◌, List, length, slice_index, Option, Some}
use Rattle.core_state.specs.Sharing.{in_order}
use Rattle.bus_hub.specs.declared.did.Did.{Did}
use Rattle.cache_gate.specs.Own.{OnBase}

module _ {H B : Type 0} (stands : H → B → List Did → List Did → Type 0)
    (bytes : H → Option (List ℕ)) where
  -- some bus that stands for the base, this share of the core and some share of the other one has the
  -- byte at the address
  pub record IsByteOf (b : B) (c : ℕ) (share : List Did) (at byte : ℕ) : Type 0 where
    pub bus : H
    pub theirs : List Did
    pub stands_by : in_order (stands bus b) c share theirs
    pub flash : List ℕ
    pub told : bytes bus ≡ Some flash
    pub inside : at < length flash
    pub is : byte ≡ slice_index flash at

  -- each byte that was read from an address on is that of such a bus: so what holds of the bytes of
  -- every bus that stands for base and share holds of what was read
  abbrev pub AreBytesOf : Option B → ℕ → List Did → ℕ → List ℕ → Type 0
  AreBytesOf base c share at out =
      OnBase base (λ b. (i : ℕ) → i < length out
      → IsByteOf b c share (at + i) (slice_index out i))
