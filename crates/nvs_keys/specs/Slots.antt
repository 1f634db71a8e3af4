-- The slots of a bank: 64 bytes each. A record has its gate, the lengths of key and value, a byte 0xFF,
-- 16 bytes of key, 32 of value and twelve bytes 0xFF.
use Rattle.std.specs.Prelude.{ℕ, zero, suc, ◌+◌, ◌-◌, ◌*◌, ◌==◌, Bool, true, ◌&&◌, ◌||◌, nat_le, if◌then◌else◌, List, [], ◌∷◌, ◌++◌, length, take, drop, replicate, slice_index, Option, None, Some}
use Rattle.nor_device.specs.Nor.{part_of}
use Rattle.nvs_keys.specs.Changes.{Change}

-- whether a record counts, by its gate and the two lengths: the gate is zero, a key has 1 to 16 bytes,
-- and a value up to 32; a length of 0xFF removes the key
unfoldable pub counts : ℕ → ℕ → ℕ → Bool
counts gate key value = (gate == 0) && (nat_le 1 key && nat_le key 16) && (nat_le value 32 || (value == 255))

-- the value of a slot, by the length that it names
abbrev pub value_of : List ℕ → ℕ → Option (List ℕ)
value_of slot len = if len == 255 then None else Some (take len (drop 20 slot))

-- the change that a slot gives, where its record counts
unfoldable pub given : List ℕ → Option Change
given slot =
    if counts (slice_index slot 0) (slice_index slot 1) (slice_index slot 2)
    then Some (record { key = take (slice_index slot 1) (drop 4 slot); value = value_of slot (slice_index slot 2) })
    else None

-- a list with one more item in front, if there is one
abbrev pub cons_option : Option Change → List Change → List Change
cons_option None cs = cs
cons_option (Some c) cs = c ∷ cs

-- the changes that so many slots give, from an address on
abbrev pub changes : List ℕ → ℕ → ℕ → List Change
changes flash at zero = []
changes flash at (suc n) = cons_option (given (part_of flash at 64)) (changes flash (at + 64) n)

-- each byte is 0xFF
abbrev pub is_blank : List ℕ → Bool
is_blank [] = true
is_blank (b ∷ bs) = (b == 255) && is_blank bs

-- how many of so many slots from an address on are used: behind them each byte is 0xFF
unfoldable pub used : List ℕ → ℕ → ℕ → ℕ
used flash at zero = 0
used flash at (suc n) = if is_blank (part_of flash (at + 64 * n) 64) then used flash at n else suc n

-- bytes with bytes 0xFF behind them, so many in all
abbrev pub padded : ℕ → List ℕ → List ℕ
padded n bytes = bytes ++ replicate (n - length bytes) 255

-- the length byte of a value, and the bytes in its place
abbrev pub length_byte : Option (List ℕ) → ℕ
length_byte None = 255
length_byte (Some value) = length value

abbrev pub value_bytes : Option (List ℕ) → List ℕ
value_bytes None = []
value_bytes (Some value) = value

-- bytes 1 to 51 of the record of a change
unfoldable pub record_bytes : Change → List ℕ
record_bytes c =
    (length c.key ∷ length_byte c.value ∷ 255 ∷ []) ++ padded 16 c.key ++ padded 32 (value_bytes c.value)

-- a slot with its gate, bytes 1 to 51 and twelve bytes 0xFF
abbrev pub slot_of : ℕ → List ℕ → List ℕ
slot_of gate bytes = gate ∷ (bytes ++ replicate 12 255)
