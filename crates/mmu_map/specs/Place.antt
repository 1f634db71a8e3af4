-- Where an address lies: pages of 64 KiB in the two address spaces that the cache maps.
use Rattle.std.specs.Prelude.{ℕ, ◌+◌, ◌-◌, ◌*◌, ◌/◌, if◌then◌else◌, Option, Some, None}
use Rattle.image_layout.specs.declared.space.Space.{Space}
use Rattle.image_layout.specs.declared.space.Space.TheVariants.{Data, Code}
use Rattle.image_layout.specs.Space.{is_data, is_code}
use Rattle.mmu_map.specs.declared.place.Place.{Place}

-- the first address of a space
abbrev pub start_of : Space → ℕ
start_of Data = 0x3F400000
start_of Code = 0x400D0000

-- how many pages it has
abbrev pub pages_in : Space → ℕ
pages_in Data = 64
pages_in Code = 51

-- the first address of a page of a space
abbrev pub address_of : Space → ℕ → ℕ
address_of space page = start_of space + page * 65536

-- a page of a space
abbrev pub place : Space → ℕ → Place
place space page = record { space = space; page = page }

-- the page in which an address lies, where it lies in a space
abbrev pub place_of : ℕ → Option Place
place_of at =
    if is_data at then Some (place Data ((at - 0x3F400000) / 65536))
    else (if is_code at then Some (place Code ((at - 0x400D0000) / 65536)) else None)
