-- The two banks of a key store: their headers, which of them is active, and the keys that it holds.
use Rattle.std.specs.Prelude.{◌≡◌, ◌≤◌, ◌<◌, ℕ, ◌+◌, ◌-◌, ◌/◌, ◌%◌, ◌==◌, Bool, not, ◌&&◌, nat_lt, if◌then◌else◌, List, ◌++◌, length, drop, Option, None, Some}
use Rattle.byteorder.specs.Endian.{little_bytes, little_number}
use Rattle.nor_device.specs.Nor.{part_of}
use Rattle.otadata.specs.Crc.{crc}
use Rattle.nvs_keys.specs.declared.bank.Bank.{Bank}
use Rattle.nvs_keys.specs.declared.bank.Bank.TheVariants.{First, Second}
use Rattle.nvs_keys.specs.declared.place.Place.{Place}
use Rattle.nvs_keys.specs.Changes.{Change, Map, live, map_after, no_keys}
use Rattle.nvs_keys.specs.Slots.{changes, used}

-- it lies in a flash of this size, and both banks are made of sectors
pub record IsPlace (p : Place) (size : ℕ) : Type 0 where
  pub begins : p.at % 4096 ≡ 0
  pub whole : p.half % 4096 ≡ 0
  pub some : 4096 ≤ p.half
  pub inside : p.at + p.half + p.half ≤ size

-- where a bank begins
abbrev pub bank_at : Place → Bank → ℕ
bank_at p First = p.at
bank_at p Second = p.at + p.half

-- the other bank
abbrev pub other : Bank → Bank
other First = Second
other Second = First

-- how many records a bank has room for: one slot is the header
abbrev pub records : Place → ℕ
records p = p.half / 64 - 1

-- where the records of a bank begin
abbrev pub records_at : Place → Bank → ℕ
records_at p bank = bank_at p bank + 64

-- a generation that a header may have
pub record IsGeneration (generation : ℕ) : Type 0 where
  pub some : 1 ≤ generation
  pub most : generation < 0xFFFFFFFF

-- the header of a generation: its number, and the CRC of it
unfoldable pub header_bytes : ℕ → List ℕ
header_bytes generation = little_bytes 4 generation ++ little_bytes 4 (crc generation)

-- whether a generation and a CRC match: the generation is neither 0 nor that of an erased header
unfoldable pub matches : ℕ → ℕ → Bool
matches generation sum = not (generation == 0xFFFFFFFF) && not (generation == 0) && (sum == crc generation)

-- the generation of a header that matches
unfoldable pub mark_of : List ℕ → Option ℕ
mark_of header =
    if matches (little_number 4 header) (little_number 4 (drop 4 header)) then Some (little_number 4 header) else None

-- the generation of a bank whose header matches
abbrev pub mark_in : Place → List ℕ → Bank → Option ℕ
mark_in p flash bank = mark_of (part_of flash (bank_at p bank) 8)

-- the bank with the greater generation, the first on a tie; none where none has one
abbrev pub active_of : Option ℕ → Option ℕ → Option Bank
active_of None None = None
active_of (Some a) None = Some First
active_of None (Some b) = Some Second
active_of (Some a) (Some b) = if nat_lt a b then Some Second else Some First

-- the active bank of a store
abbrev pub active_in : Place → List ℕ → Option Bank
active_in p flash = active_of (mark_in p flash First) (mark_in p flash Second)

-- the changes that a bank gives
abbrev pub bank_changes : Place → List ℕ → Bank → List Change
bank_changes p flash bank = changes flash (records_at p bank) (records p)

-- the map of a bank
unfoldable pub map_of : Place → List ℕ → Bank → Map
map_of p flash bank = map_after no_keys (bank_changes p flash bank)

-- the map of a bank, if there is one
abbrev pub keys_of : Place → List ℕ → Option Bank → Option Map
keys_of p flash None = None
keys_of p flash (Some bank) = Some (map_of p flash bank)

-- the keys of a store: the map of its active bank; none where no bank is active
abbrev pub keys_in : Place → List ℕ → Option Map
keys_in p flash = keys_of p flash (active_in p flash)

-- how many slots of a bank are used
abbrev pub used_in : Place → List ℕ → Bank → ℕ
used_in p flash bank = used flash (records_at p bank) (records p)

-- how many records of a bank give the values of its map
abbrev pub live_in : Place → List ℕ → Bank → ℕ
live_in p flash bank = length (live (bank_changes p flash bank))
