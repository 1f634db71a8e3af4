-- A number by its digits.
use Rattle.std.specs.Prelude.{ℕ, ◌+◌, ◌-◌, ◌*◌, ◌^◌, Bool, ◌&&◌, ◌==◌, nat_le, List, [], ◌∷◌, length, take, drop, codes, Option, Some, None, if◌then◌else◌}
use Rattle.std.specs.Option.{option_and_then}
use Rattle.std.specs.Str.{bytes_eq}

-- whether a byte is between two others
abbrev pub is_among : ℕ → ℕ → ℕ → Bool
is_among first last c = nat_le first c && nat_le c last

-- the value of a digit: `0` to `9`, and to base 16 also `A` to `F` and `a` to `f`
unfoldable pub digit : ℕ → ℕ → Option ℕ
digit base c =
    if is_among 48 57 c then Some (c - 48)
    else (if (base == 16) && is_among 65 70 c then Some (c - 55)
    else (if (base == 16) && is_among 97 102 c then Some (c - 87) else None))

-- the value of digits behind those of the value n
unfoldable pub value_from : ℕ → ℕ → List ℕ → Option ℕ
value_from base n [] = Some n
value_from base n (c ∷ cs) = option_and_then (λ d. value_from base (n * base + d) cs) (digit base c)

-- the value of one or more digits
unfoldable pub value_of : ℕ → List ℕ → Option ℕ
value_of base text = if length text == 0 then None else value_from base 0 text

-- a value, if it is at most so great
abbrev pub within : ℕ → Option ℕ → Option ℕ
within most None = None
within most (Some n) = if nat_le n most then Some n else None

-- the value of decimal digits, or of `0x` and hex digits
unfoldable pub spelled_value : List ℕ → Option ℕ
spelled_value text =
    if bytes_eq (take 2 text) (codes "0x") then value_of 16 (drop 2 text) else value_of 10 text

-- the number that a text spells, where it fits 64 bits
unfoldable pub number_of_text : List ℕ → Option ℕ
number_of_text text = within (2 ^ 64 - 1) (spelled_value text)

-- the number that a text spells, if it is at most so great
abbrev pub number_up_to : ℕ → List ℕ → Option ℕ
number_up_to most text = within most (number_of_text text)
