-- The two address spaces that the cache maps, in pages of 64 KiB.
use Rattle.std.specs.Prelude.{ℕ, ◌+◌, ◌%◌, ◌==◌, ◌<◌, ◌≤◌, Bool, true, ◌&&◌, nat_le, nat_lt, if◌then◌else◌}

-- the address lies in the data space: 64 pages from 0x3F400000 on
pub record IsData (at : ℕ) : Type 0 where
  pub first : 0x3F400000 ≤ at
  pub last : at < 0x3F800000

-- the address lies in the code space: 51 pages from 0x400D0000 on
pub record IsCode (at : ℕ) : Type 0 where
  pub first : 0x400D0000 ≤ at
  pub last : at < 0x40400000

-- whether it lies in the data space
unfoldable pub is_data : ℕ → Bool
is_data at = nat_le 0x3F400000 at && nat_lt at 0x3F800000

-- whether it lies in the code space
unfoldable pub is_code : ℕ → Bool
is_code at = nat_le 0x400D0000 at && nat_lt at 0x40400000

-- a segment that is mapped through the cache ends inside its space, and stands in its page of the flash where its
-- load address stands in its page of the space
abbrev pub is_mapped_well : ℕ → ℕ → ℕ → ℕ → Bool
is_mapped_well end load len place = nat_le (load + len) end && (load % 65536 == place % 65536)

-- whether a segment of this load address and length may have its data at this place of the image: an empty one, and one
-- that is no part of a space, may stand anywhere
unfoldable pub may_load : ℕ → ℕ → ℕ → Bool
may_load load len place =
    if len == 0 then true
    else (if is_data load then is_mapped_well 0x3F800000 load len place
    else (if is_code load then is_mapped_well 0x40400000 load len place else true))
