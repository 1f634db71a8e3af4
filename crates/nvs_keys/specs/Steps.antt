-- The steps of the calls of a key store, by the flash as a call begins.
use Rattle.std.specs.Prelude.{ℕ, zero, suc, ◌+◌, ◌*◌, ◌/◌, nat_lt, if◌then◌else◌, List, [], ◌∷◌, ◌++◌}
use Rattle.nor_device.specs.declared.step.Step.{Step}
use Rattle.nor_device.specs.declared.step.Step.TheVariants.{Erase, Program}
use Rattle.nor_device.specs.Nor.{part_of}
use Rattle.flash_steps.specs.Steps.{erase_steps}
use Rattle.nvs_keys.specs.declared.bank.Bank.{Bank}
use Rattle.nvs_keys.specs.declared.bank.Bank.TheVariants.{First, Second}
use Rattle.nvs_keys.specs.Changes.{Change, is_live}
use Rattle.nvs_keys.specs.Slots.{changes, given, record_bytes}
use Rattle.nvs_keys.specs.declared.place.Place.{Place}
use Rattle.nvs_keys.specs.Banks.{bank_at, header_bytes, live_in, other, records, records_at, used_in}

-- a record in the slot at an address: its bytes first, and then its gate
abbrev pub put_steps : ℕ → List ℕ → List Step
put_steps at bytes = Program (at + 1) bytes ∷ Program at (0 ∷ []) ∷ []

-- of so many slots from an address on, each live record is put into a slot of its own, from another
-- address on
abbrev pub copies : List ℕ → ℕ → ℕ → ℕ → List Step
copies flash from zero to = []
copies flash from (suc n) to =
    if is_live (given (part_of flash from 64)) (changes flash (from + 64) n)
    then put_steps to (part_of flash (from + 1) 51) ++ copies flash (from + 64) n (to + 64)
    else copies flash (from + 64) n to

-- a header is programmed
abbrev pub header_steps : Place → Bank → ℕ → List Step
header_steps p bank generation = Program (bank_at p bank) (header_bytes generation) ∷ []

-- the exchange of banks: the other bank is erased, its first sector first; it gets the live records of
-- this one, and last the header of the next generation
abbrev pub exchange_steps : Place → List ℕ → Bank → ℕ → List Step
exchange_steps p flash bank generation =
    erase_steps (bank_at p (other bank)) p.half
    ++ copies flash (records_at p bank) (records p) (records_at p (other bank))
    ++ header_steps p (other bank) (generation + 1)

-- where the slot of this number lies in a bank
abbrev pub slot_at : Place → Bank → ℕ → ℕ
slot_at p bank n = records_at p bank + 64 * n

-- a change is put into the first free slot; where none is free, the banks are exchanged first
unfoldable pub change_steps : Place → List ℕ → Bank → ℕ → Change → List Step
change_steps p flash bank generation c =
    if nat_lt (used_in p flash bank) (records p)
    then put_steps (slot_at p bank (used_in p flash bank)) (record_bytes c)
    else exchange_steps p flash bank generation
    ++ put_steps (slot_at p (other bank) (live_in p flash bank)) (record_bytes c)

-- the bank that is active behind a change, and its generation
abbrev pub bank_behind : Place → List ℕ → Bank → Bank
bank_behind p flash bank = if nat_lt (used_in p flash bank) (records p) then bank else other bank

abbrev pub generation_behind : Place → List ℕ → Bank → ℕ → ℕ
generation_behind p flash bank generation =
    if nat_lt (used_in p flash bank) (records p) then generation else generation + 1

-- the format of a store: the first sector of the second bank is erased, then the first bank, which
-- last gets the header of generation 1
abbrev pub format_steps : Place → List Step
format_steps p =
    Erase (bank_at p Second / 4096) ∷ (erase_steps (bank_at p First) p.half ++ header_steps p First 1)

-- the steps of several calls, one after the other
abbrev pub joined : List (List Step) → List Step
joined [] = []
joined (steps ∷ later) = steps ++ joined later
