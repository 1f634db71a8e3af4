-- The CRC of a sequence: the remainder of a division of polynomials, read back and inverted.
use Rattle.std.specs.Prelude.{ℕ, zero, suc, ◌+◌, ◌-◌, ◌*◌, ◌/◌, ◌%◌, ◌^◌, ◌==◌, if◌then◌else◌, bit_xor, Bool, true, List, [], ◌∷◌}
use Rattle.otadata.specs.Polynomial.{raised, remainder}

-- the lowest n bits of a number, bit 0 first
unfoldable pub bits : ℕ → ℕ → List Bool
bits zero x = []
bits (suc n) x = (x % 2 == 1) ∷ bits n (x / 2)

-- the number with these bits, bit 0 first
unfoldable pub number_of : List Bool → ℕ
number_of [] = 0
number_of (b ∷ bs) = (if b then 1 else 0) + 2 * number_of bs

-- the polynomial of CRC-32 below x to the power 32, the coefficient of x to the power 31 as bit 0
abbrev pub reflected : ℕ
reflected = 0xEDB88320

-- the polynomial of CRC-32: x to the power 32, and below it the bits of its reflected number
unfoldable pub generator : List Bool
generator = true ∷ bits 32 reflected

-- the dividend: the 32 bits of the sequence, bit 0 highest, times x to the power 32
unfoldable pub divided : ℕ → List Bool
divided seq = raised (bits 32 seq) 32

-- a remainder as a number: its highest coefficient is bit 0, and all 32 bits are inverted
abbrev pub read_back : List Bool → ℕ
read_back r = 2 ^ 32 - 1 - number_of r

-- the CRC of a sequence
unfoldable pub crc : ℕ → ℕ
crc seq = read_back (remainder (divided seq) generator)

-- a reflected register of 32 bits after a step: it moves down by a bit, and the polynomial is taken
-- away where the bit that falls out is one
abbrev pub shifted : ℕ → ℕ
shifted register = if register % 2 == 1 then bit_xor (register / 2) reflected else register / 2
