-- Numbers as upper-case hex digits.
use Rattle.std.specs.Prelude.{ℕ, zero, suc, ◌+◌, ◌/◌, ◌%◌, ◌^◌, nat_lt, if◌then◌else◌, List, [], ◌∷◌}

-- the character of a digit from 0 to 15: 0 to 9, then A to F
abbrev pub hex_glyph : ℕ → ℕ
hex_glyph digit = if nat_lt digit 10 then 48 + digit else 55 + digit

-- this many hex digits of a number, the highest first: the digit at a place is what the number,
-- divided by 16 to the power of the place, leaves when it is divided by 16 once more
abbrev pub hex_text : ℕ → ℕ → List ℕ
hex_text zero number = []
hex_text (suc place) number = hex_glyph (number / 16 ^ place % 16) ∷ hex_text place number
