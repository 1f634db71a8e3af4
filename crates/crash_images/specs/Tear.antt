-- The one torn flash that a tear number names.
use Rattle.std.specs.Prelude.{ℕ, ◌+◌, ◌/◌, ◌%◌, Bool, true, false, ◌&&◌, nat_le, nat_lt, if◌then◌else◌, List, [], ◌∷◌, ◌++◌, take, drop, slice_index, bit_and, bit_or}
use Rattle.nor_device.specs.declared.step.Step.{Step}
use Rattle.nor_device.specs.declared.step.Step.TheVariants.{Erase, Program, Block}
use Rattle.nor_device.specs.Flash.{start_of, len_of, end_of, anded}

-- bits 0 to 7 of the tear number: the mask of the bytes in its window
abbrev pub window_mask : ℕ → ℕ
window_mask tear = tear % 256

-- bits 8 to 15: the mask of all other bytes
abbrev pub other_mask : ℕ → ℕ
other_mask tear = tear / 256 % 256

-- bits 16 to 31: where the window begins
abbrev pub window_start : ℕ → ℕ
window_start tear = tear / 65536 % 65536

-- bits 32 to 47: where it ends
abbrev pub window_end : ℕ → ℕ
window_end tear = tear / 4294967296 % 65536

-- the mask of the i-th byte of the step's range
abbrev pub mask_at : ℕ → ℕ → ℕ
mask_at tear i =
    if nat_le (window_start tear) i && nat_lt i (window_end tear) then window_mask tear
    else other_mask tear

-- the torn byte: an erase has set the bits of the mask, and a program has not cleared them
abbrev pub torn_byte_of : ℕ → ℕ → Bool → ℕ → ℕ → ℕ
torn_byte_of old new erase tear i =
    if erase then bit_or old (mask_at tear i) else bit_and old (bit_or new (mask_at tear i))

-- the bytes, from the i-th on, with the bits of their masks set
abbrev pub with_mask_bits : ℕ → ℕ → List ℕ → List ℕ
with_mask_bits tear i [] = []
with_mask_bits tear i (byte ∷ bytes) = bit_or byte (mask_at tear i) ∷ with_mask_bits tear (i + 1) bytes

-- what is left of the bytes in the step's range
abbrev pub torn_part : Step → ℕ → List ℕ → List ℕ
torn_part (Erase sector) tear part = with_mask_bits tear 0 part
torn_part (Program at page) tear part = anded part (with_mask_bits tear 0 page)
torn_part (Block block) tear part = with_mask_bits tear 0 part

-- what is left of the flash: its range is torn by the number, and all else is as before
abbrev pub torn_by : List ℕ → Step → ℕ → List ℕ
torn_by flash step tear =
    take (start_of step) flash
    ++ torn_part step tear (take (len_of step) (drop (start_of step) flash))
    ++ drop (end_of step) flash

-- the step sets bits
abbrev pub is_erase : Step → Bool
is_erase (Erase sector) = true
is_erase (Program at page) = false
is_erase (Block block) = true

-- the data byte for the k-th byte of the range: an erase writes 0xFF
abbrev pub data_byte_of : Step → ℕ → ℕ
data_byte_of (Erase sector) k = 255
data_byte_of (Program at page) k = slice_index page k
data_byte_of (Block block) k = 255

-- the flash in which as many bytes from the address on have the bits of their masks set: the i-th and the next of a range
abbrev pub masked : List ℕ → ℕ → ℕ → ℕ → ℕ → List ℕ
masked flash at len tear i =
    take at flash ++ with_mask_bits tear i (take len (drop at flash)) ++ drop (at + len) flash
