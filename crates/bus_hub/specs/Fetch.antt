-- What a fetch reads through the map, and which bit of the mask serves it.
use Rattle.std.specs.Prelude.{◌≡◌, ℕ, ◌+◌, ◌<◌, if◌then◌else◌, List, length, slice_index, Option, Some, None}
use Rattle.std.specs.Int.{IsBitSet}
use Rattle.image_layout.specs.declared.space.Space.{Space}
use Rattle.image_layout.specs.declared.space.Space.TheVariants.{Data, Code}
use Rattle.image_layout.specs.Space.{is_data}
use Rattle.mmu_map.specs.Map.{Map, translated, IsFixedAt}

-- the address is there, and lies in a flash of this size
abbrev pub IsInFlash : Option ℕ → ℕ → Type 0
IsInFlash None size = ⊥
IsInFlash (Some to) size = to < size

-- each address of the range is mapped into the flash
pub record IsReachable (m : Map) (size at len : ℕ) : Type 0 where
  pub reached : (i : ℕ) → i < len → IsInFlash (translated m (at + i)) size

-- an address of the range is not mapped, or lies after the flash's end
pub record IsUnmapped (m : Map) (size at len : ℕ) : Type 0 where
  pub place : ℕ
  pub within : place < len
  pub beyond : ¬ IsInFlash (translated m (at + place)) size

-- each address of the range lies in a page that was fixed, and leads into a flash of this size
pub record IsFixed (m : Map) (size at len : ℕ) : Type 0 where
  pub fixed : (i : ℕ) → i < len → IsFixedAt m (at + i)
  pub inside : (i : ℕ) → i < len → IsInFlash (translated m (at + i)) size

-- the byte is that of the flash at this address
abbrev pub ShowsByte : Option ℕ → List ℕ → ℕ → Type 0
ShowsByte None flash byte = ⊥
ShowsByte (Some to) flash byte = (to < length flash) × (byte ≡ slice_index flash to)

-- the bytes are those of the flash at the addresses that the map gives from this one on
pub record IsRead (m : Map) (flash : List ℕ) (at : ℕ) (bytes : List ℕ) : Type 0 where
  pub shown : (i : ℕ) → i < length bytes
      → ShowsByte (translated m (at + i)) flash (slice_index bytes i)

-- the space in which a mapped address lies
abbrev pub space_at : ℕ → Space
space_at at = if is_data at then Data else Code

-- the bit of the mask that serves a space
abbrev pub bit_of : Space → ℕ
bit_of Data = 0
bit_of Code = 1

-- the mask serves the space in which the address lies
abbrev pub IsServed : ℕ → ℕ → Type 0
IsServed mask at = IsBitSet mask (bit_of (space_at at))
