-- A reflected register that is shifted is long division, one bit at a time.
use Rattle.std.proofs.Common.{◌≡◌, ℕ, zero, suc, ◌+◌, ◌-◌, ◌*◌, ◌/◌, ◌%◌, ◌^◌, ◌<◌, ◌==◌, cond, ◌⊎◌, inl, inr, bit_xor, Bool, true, false, ◌&&◌, List, [], ◌∷◌, ◌++◌, length, replicate, refl, sym, ap, ◌∙◌, arith}
use Rattle.std.proofs.lemmas.List.{append-nil, length-append, length-map, length-replicate}
use Rattle.std.proofs.lemmas.Nat.{xor_shr}
use Rattle.std.proofs.lemmas.Nat.Bits.{bit_at_xor}
use Rattle.std.proofs.Math.Nat.{pow-suc}
use Rattle.otadata.specs.Polynomial.{xor, plus, scaled, raised, IsMonic, IsRemainder, left_after, remainder}
use Rattle.otadata.specs.Crc.{reflected, bits, number_of, generator, divided, read_back, crc, shifted}
use Rattle.otadata.proofs.PolynomialLemmas.{plus-zeros, remainder-exists, remainder-unique}

-- ---- the bits of a number

-- a number is even or odd
parity : (n : ℕ) → (n % 2 ≡ 0) ⊎ (n % 2 ≡ 1)
parity n = grind arith

-- as many as were asked for
pub length-bits : (n x : ℕ) → length (bits n x) ≡ n
unfolding bits
length-bits zero x = refl
length-bits (suc n) x = let rest = length-bits n (x / 2) in omega arith

-- half a number has a bit less
half-lt : (n x : ℕ) → x < 2 ^ suc n → x / 2 < 2 ^ n
half-lt n x h = let twice : 2 ^ suc n ≡ 2 ^ n * 2 = pow-suc 2 n in omega arith

-- the number of its own bits
pub number_of-bits : (n x : ℕ) → x < 2 ^ n → number_of (bits n x) ≡ x
unfolding bits number_of
number_of-bits zero x h = omega arith
number_of-bits (suc n) x h =
    let rest = number_of-bits n (x / 2) (half-lt n x h) in
    elim (parity x) [
      | inl even ↦ rw even (omega arith)
      | inr odd ↦ rw odd (omega arith)
    ]

-- the bit above all bits of a number is zero
pub bits-above : (n x : ℕ) (rest : List Bool) → x < 2 ^ n
    → bits n x ++ (false ∷ rest) ≡ bits (suc n) x ++ rest
unfolding bits
bits-above zero x rest h = let none : x ≡ 0 = omega arith in rw none refl
bits-above (suc n) x rest h =
    ap (λ (bs : List Bool). (x % 2 == 1) ∷ bs) (bits-above n (x / 2) rest (half-lt n x h))

-- the lowest bit of an exclusive or
xor-odd : (x y : ℕ) → xor (x % 2 == 1) (y % 2 == 1) ≡ (bit_xor x y % 2 == 1)
xor-odd x y =
    let low : bit_xor x y % 2 ≡ (x % 2 + y % 2) % 2 = omega (arith, bit_at_xor x y 0) in
    elim (parity x) [
      | inl even ↦ elim (parity y)
          [ inl other ↦ rw (low, even, other) refl | inr other ↦ rw (low, even, other) refl ]
      | inr odd ↦ elim (parity y)
          [ inl other ↦ rw (low, odd, other) refl | inr other ↦ rw (low, odd, other) refl ]
    ]

-- the other bits of an exclusive or
xor-half : (x y : ℕ) → bit_xor x y / 2 ≡ bit_xor (x / 2) (y / 2)
xor-half x y = xor_shr x y 1

-- the bits of an exclusive or are a sum
pub plus-bits : (n x y : ℕ) → plus (bits n x) (bits n y) ≡ bits n (bit_xor x y)
unfolding bits
plus-bits zero x y = refl
plus-bits (suc n) x y = rw (xor-odd x y, xor-half x y, plus-bits n (x / 2) (y / 2)) refl

-- ---- a step of the register is a step of the division

-- sums of two parts, part by part
plus-append : (p q x y : List Bool) → length p ≡ length q
    → plus (p ++ x) (q ++ y) ≡ plus p q ++ plus x y
plus-append [] [] x y e = refl
plus-append [] (b ∷ q) x y e = absurd (omega arith)
plus-append (a ∷ p) [] x y e = absurd (omega arith)
plus-append (a ∷ p) (b ∷ q) x y e = ap (λ (r : List Bool). xor a b ∷ r)
    (plus-append p q x y (omega arith))

-- one times a polynomial
scaled-one : (p : List Bool) → scaled true p ≡ p
scaled-one [] = refl
scaled-one (a ∷ p) = ap (λ (r : List Bool). a ∷ r) (scaled-one p)

-- zero times a polynomial adds nothing
plus-scaled_zero : (p q : List Bool) → length p ≡ length q → plus p (scaled false q) ≡ p
plus-scaled_zero [] q e = refl
plus-scaled_zero (a ∷ p) [] e = absurd (omega arith)
plus-scaled_zero (false ∷ p) (b ∷ q) e = ap (λ (r : List Bool). false ∷ r)
    (plus-scaled_zero p q (omega arith))
plus-scaled_zero (true ∷ p) (b ∷ q) e = ap (λ (r : List Bool). true ∷ r)
    (plus-scaled_zero p q (omega arith))

-- where b is one, the bits of y and of g are added
plus-taken : (n y g : ℕ) (b : Bool)
    → plus (bits n y) (scaled b (bits n g)) ≡ bits n (cond b (bit_xor y g) y)
plus-taken n y g true = rw (scaled-one (bits n g)) (plus-bits n y g)
plus-taken n y g false = plus-scaled_zero (bits n y) (bits n g) (length-bits n y
    ∙ sym (length-bits n g))

-- the same at a register that moved down by a bit, with k zeros behind it
raised-taken : (w k y g : ℕ) (b : Bool) → y < 2 ^ w
    → plus (bits w y ++ (false ∷ replicate k false)) (raised (scaled b (bits (suc w) g)) k)
    ≡ raised (bits (suc w) (cond b (bit_xor y g) y)) k
raised-taken w k y g b h =
    let n = suc w in
    let zeros = replicate k false in
    let long : length (bits n y) ≡ length (scaled b (bits n g)) = length-bits n y
    ∙ sym (length-map (bits n g) (λ a. b && a) ∙ length-bits n g) in
    ap (λ (p : List Bool). plus p (scaled b (bits n g) ++ zeros)) (bits-above w y zeros h)
    ∙ plus-append (bits n y) (scaled b (bits n g)) zeros zeros long
    ∙ ap (λ (p : List Bool). p ++ plus zeros zeros) (plus-taken n y g b)
    ∙ ap (λ (z : List Bool). bits n (cond b (bit_xor y g) y) ++ z)
    (plus-zeros k zeros (length-replicate k false))

-- a step of long division on a register of w + 1 bits and the zeros behind it
left_after-shifted : (w k r g : ℕ) → r < 2 ^ suc w
    → left_after (suc k) (raised (bits (suc w) r) (suc k)) (true ∷ bits (suc w) g)
    ≡ left_after k (raised (bits (suc w) (cond (r % 2 == 1) (bit_xor (r / 2) g) (r / 2))) k)
    (true ∷ bits (suc w) g)
unfolding left_after bits
left_after-shifted w k r g h =
    ap (λ (p : List Bool). left_after k p (true ∷ bits (suc w) g))
    (raised-taken w k (r / 2) g (r % 2 == 1) (half-lt w r h))

-- ---- the CRC

-- what k more steps leave of a register
unfoldable pub rest_of : ℕ → ℕ → List Bool
rest_of k register = left_after k (raised (bits 32 register) k) generator

-- a step
pub rest_of-suc : (k register : ℕ) → register < 2 ^ 32
    → rest_of (suc k) register ≡ rest_of k (shifted register)
unfolding rest_of generator
rest_of-suc k register h = left_after-shifted 31 k register reflected h

-- at the end the register holds the remainder
pub rest_of-zero : (register : ℕ) → rest_of 0 register ≡ bits 32 register
unfolding rest_of left_after
rest_of-zero register = append-nil (bits 32 register)

-- the highest coefficient of the divisor is one
pub generator-monic : IsMonic generator
unfolding generator
generator-monic = record { rest = bits 32 reflected; leads = refl }

-- it has 33 coefficients
length-generator : length generator ≡ 33
unfolding generator
length-generator = let e = length-bits 32 reflected in omega arith

-- the dividend has 64 coefficients
length-divided : (seq : ℕ) → length (divided seq) ≡ 64
unfolding divided
length-divided seq =
    length-append (bits 32 seq) (replicate 32 false)
    ∙ ap (λ (n : ℕ). n + length (replicate 32 false)) (length-bits 32 seq)

-- the CRC is read from what 32 steps leave
pub crc-rest : (seq : ℕ) → crc seq ≡ read_back (rest_of 32 seq)
unfolding crc rest_of divided
crc-rest seq =
    let steps : length (divided seq) + 1 - length generator
    ≡ 32 = omega (arith, length-divided seq, length-generator) in
    ap (λ (n : ℕ). read_back (left_after n (divided seq) generator)) steps

-- the division leaves a remainder
pub divided-remainder : (seq : ℕ)
    → IsRemainder (divided seq) generator (remainder (divided seq) generator)
divided-remainder seq =
    remainder-exists (divided seq) generator generator-monic
    (omega (arith, length-divided seq, length-generator))

-- the register fits, and k more steps leave of it what all steps leave of the sequence
pub record IsOnTheWay (k seq register : ℕ) : Type 0 where
  pub fits : register < 2 ^ 32
  pub left : rest_of k register ≡ rest_of 32 seq

-- a register that all steps were made on gives the CRC
pub crc-register : (seq register : ℕ) → IsOnTheWay 0 seq register → crc seq ≡ 2 ^ 32 - 1 - register
crc-register seq register done =
    crc-rest seq ∙ ap read_back (sym done.left ∙ rest_of-zero register)
    ∙ ap (λ (n : ℕ). 2 ^ 32 - 1 - n) (number_of-bits 32 register done.fits)

-- any remainder gives the CRC
pub crc-from_remainder : (seq : ℕ) (r : List Bool) → IsRemainder (divided seq) generator r
    → crc seq ≡ read_back r
unfolding crc
crc-from_remainder seq r is = ap read_back
    (sym (remainder-unique (divided seq) generator r generator-monic is))

-- it has 32 bits
pub crc-lt : (seq : ℕ) → crc seq < 2 ^ 32
unfolding crc
crc-lt seq = omega arith
