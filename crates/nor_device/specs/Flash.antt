-- A flash is the list of its bytes. What a step changes of it.
use Rattle.std.specs.Prelude.{ℕ, ◌+◌, ◌-◌, ◌*◌, ◌%◌, ◌≤◌, Bool, ◌&&◌, nat_le, nat_lt, if◌then◌else◌, List, [], ◌∷◌, ◌++◌, length, take, drop, slice_index, bit_and, replicate}
use Rattle.nor_device.specs.declared.step.Step.{Step}
use Rattle.nor_device.specs.declared.step.Step.TheVariants.{Erase, Program, Block}

-- the data of a program has 1 to 256 bytes
abbrev pub IsPageLength : List ℕ → Type 0
IsPageLength page = (1 ≤ length page) × (length page ≤ 256)

-- the first address that the step may change
abbrev pub start_of : Step → ℕ
start_of (Erase sector) = sector * 4096
start_of (Program at page) = at
start_of (Block block) = block * 65536

-- how many bytes it may change
abbrev pub len_of : Step → ℕ
len_of (Erase sector) = 4096
len_of (Program at page) = length page
len_of (Block block) = 65536

-- the address after the last that it may change
abbrev pub end_of : Step → ℕ
end_of step = start_of step + len_of step

-- a program stays in one page of 256 bytes
abbrev pub IsInOnePage : Step → Type 0
IsInOnePage (Erase sector) = Unit {0}
IsInOnePage (Program at page) = at % 256 + length page ≤ 256
IsInOnePage (Block block) = Unit {0}

-- the step is the erase of a sector or of a block
abbrev pub IsErase : Step → Type 0
IsErase (Erase sector) = Unit {0}
IsErase (Program at page) = ⊥
IsErase (Block block) = Unit {0}

-- the old bytes, each ANDed with the new one at its place
abbrev pub anded : List ℕ → List ℕ → List ℕ
anded [] new = []
anded (byte ∷ old) [] = byte ∷ old
anded (byte ∷ old) (data_byte ∷ new) = bit_and byte data_byte ∷ anded old new

-- what the step leaves of the bytes in its range
abbrev pub part_after : Step → List ℕ → List ℕ
part_after (Erase sector) part = replicate (length part) 255
part_after (Program at page) part = anded part page
part_after (Block block) part = replicate (length part) 255

-- the flash after the step: its range is changed, and all else is as before
abbrev pub applied : List ℕ → Step → List ℕ
applied flash step =
    take (start_of step) flash
    ++ part_after step (take (len_of step) (drop (start_of step) flash))
    ++ drop (end_of step) flash

-- the flash with as many bytes of 0xFF from the address on
abbrev pub erased : List ℕ → ℕ → ℕ → List ℕ
erased flash at len = take at flash ++ replicate len 255 ++ drop (at + len) flash

-- the flash after the steps, one after the other
abbrev pub after_steps : List ℕ → List Step → List ℕ
after_steps flash [] = flash
after_steps flash (step ∷ steps) = after_steps (applied flash step) steps

-- the address lies in the step's range
abbrev pub is_in_range : Step → ℕ → Bool
is_in_range step i = nat_le (start_of step) i && nat_lt i (end_of step)

-- what the step makes of the k-th byte of its range
abbrev pub changed_byte : Step → ℕ → ℕ → ℕ
changed_byte (Erase sector) k byte = 255
changed_byte (Program at page) k byte = bit_and byte (slice_index page k)
changed_byte (Block block) k byte = 255

-- what the step makes of the byte at an address
abbrev pub byte_after : Step → ℕ → ℕ → ℕ
byte_after step i byte =
    if is_in_range step i then changed_byte step (i - start_of step) byte else byte
