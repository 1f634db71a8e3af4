-- Polynomials over two values, and their division.
-- A polynomial is the list of its coefficients, the highest first; `true` is one, `false` is zero.
use Rattle.std.specs.Prelude.{◌≡◌, ℕ, zero, suc, ◌+◌, ◌-◌, Bool, true, false, ◌&&◌, not, List, [], ◌∷◌, ◌++◌, length, map, drop, replicate}

-- the sum of two coefficients: one and one are zero
abbrev pub xor : Bool → Bool → Bool
xor false b = b
xor true b = not b

-- the sum of two polynomials of as many coefficients, coefficient by coefficient
abbrev pub plus : List Bool → List Bool → List Bool
plus [] q = []
plus (a ∷ p) [] = []
plus (a ∷ p) (b ∷ q) = xor a b ∷ plus p q

-- a coefficient times a polynomial
abbrev pub scaled : Bool → List Bool → List Bool
scaled b p = map (λ a. b && a) p

-- a polynomial times x to the power n
abbrev pub raised : List Bool → ℕ → List Bool
raised p n = p ++ replicate n false

-- a polynomial with n more coefficients, all of them zero, above its own
abbrev pub widened : ℕ → List Bool → List Bool
widened n p = replicate n false ++ p

-- the product of q and d: d times each coefficient of q, raised by its place, all added
abbrev pub times : List Bool → List Bool → List Bool
times [] d = replicate (length d - 1) false
times (b ∷ q) d = plus (raised (scaled b d) (length q)) (false ∷ times q d)

-- its highest coefficient is one
pub record IsMonic (d : List Bool) : Type 0 where
  pub rest : List Bool
  pub leads : d ≡ true ∷ rest

-- p divided by d leaves r: p is a multiple of d and r, which has a coefficient less than d
pub record IsRemainder (p d r : List Bool) : Type 0 where
  pub quotient : List Bool
  pub shorter : length r + 1 ≡ length d
  pub sums : p ≡ plus (times quotient d) (widened (length quotient) r)

-- what is left of p after n steps of long division by d: where the highest coefficient of p is one,
-- a step takes d away, raised to stand under it, and the zero that then leads is dropped
unfoldable pub left_after : ℕ → List Bool → List Bool → List Bool
left_after zero p d = p
left_after (suc n) [] d = []
left_after (suc n) (b ∷ p) d = left_after n (drop 1 (plus (b ∷ p) (raised (scaled b d) n))) d

-- the remainder of p divided by d, by long division
abbrev pub remainder : List Bool → List Bool → List Bool
remainder p d = left_after (length p + 1 - length d) p d
