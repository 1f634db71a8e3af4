-- The division of polynomials over two values: it leaves a remainder, and no other.
use Rattle.std.proofs.Common.{◌≡◌, ℕ, zero, suc, ◌+◌, ◌-◌, ◌≤◌, Bool, true, false, ◌&&◌, List, [], ◌∷◌, length, replicate, refl, sym, ap, subst, ◌∙◌, arith}
use Rattle.std.proofs.lemmas.List.{length-replicate, length-append, length-map}
use Rattle.otadata.specs.Polynomial.{xor, plus, scaled, raised, widened, times, IsMonic, IsRemainder, left_after, remainder}

-- ---- sums

-- sums of coefficients may be grouped
xor_assoc : (a b c : Bool) → xor (xor a b) c ≡ xor a (xor b c)
xor_assoc false b c = refl
xor_assoc true false c = refl
xor_assoc true true false = refl
xor_assoc true true true = refl

-- a coefficient that is added twice is gone
xor_twice : (a b : Bool) → xor a (xor b a) ≡ b
xor_twice false false = refl
xor_twice false true = refl
xor_twice true false = refl
xor_twice true true = refl

-- sums of polynomials may be grouped
pub plus_assoc : (p q r : List Bool) → plus (plus p q) r ≡ plus p (plus q r)
plus_assoc [] q r = refl
plus_assoc (a ∷ p) [] r = refl
plus_assoc (a ∷ p) (b ∷ q) [] = refl
plus_assoc (a ∷ p) (b ∷ q) (c ∷ r) = rw (xor_assoc a b c, plus_assoc p q r) refl

-- a polynomial that is added twice is gone
pub plus_twice : (p q : List Bool) → length p ≡ length q → plus p (plus q p) ≡ q
plus_twice [] [] e = refl
plus_twice [] (b ∷ q) e = absurd (omega arith)
plus_twice (a ∷ p) [] e = absurd (omega arith)
plus_twice (a ∷ p) (b ∷ q) e = rw (xor_twice a b, plus_twice p q (omega arith)) refl

-- zeros add nothing
pub plus-zeros : (n : ℕ) (p : List Bool) → length p ≡ n → plus (replicate n false) p ≡ p
plus-zeros zero [] e = refl
plus-zeros zero (a ∷ p) e = absurd (omega arith)
plus-zeros (suc n) [] e = absurd (omega arith)
plus-zeros (suc n) (a ∷ p) e = ap (λ (r : List Bool). a ∷ r) (plus-zeros n p (omega arith))

-- a sum has as many coefficients as each of the two
pub length-plus : (p q : List Bool) → length p ≡ length q → length (plus p q) ≡ length p
length-plus [] q e = refl
length-plus (a ∷ p) [] e = absurd (omega arith)
length-plus (a ∷ p) (b ∷ q) e = let rest = length-plus p q (omega arith) in omega arith

-- ---- lengths

-- a multiple by a coefficient and a power
pub length-raised : (b : Bool) (p : List Bool) (n : ℕ)
    → length (raised (scaled b p) n) ≡ length p + n
length-raised b p n =
    let whole = length-append (scaled b p) (replicate n false) in
    let front = length-map p (λ a. b && a) in
    let back = length-replicate n false in
    omega arith

-- zeros above a polynomial
pub length-widened : (n : ℕ) (p : List Bool) → length (widened n p) ≡ n + length p
length-widened n p =
    let whole = length-append (replicate n false) p in
    let front = length-replicate n false in
    omega arith

-- a product of n coefficients and a divisor
pub length-times : (q low : List Bool) → length (times q (true ∷ low)) ≡ length q + length low
length-times [] low = let e = length-replicate (suc (length low) - 1) false in omega arith
length-times (b ∷ q) low =
    let rest = length-times q low in
    let first = length-raised b low (length q) in
    let same = length-plus (raised (scaled b low) (length q)) (times q (true ∷ low)) (omega arith)
    in
    omega arith

-- what division leaves
pub length-left_after : (n : ℕ) (p low : List Bool) → length p ≡ n + length low
    → length (left_after n p (true ∷ low)) ≡ length low
unfolding left_after
length-left_after zero p low e = omega arith
length-left_after (suc n) [] low e = absurd (omega arith)
length-left_after (suc n) (b ∷ p) low e =
    let taken = length-raised b low n in
    let same = length-plus p (raised (scaled b low) n) (omega arith) in
    length-left_after n (plus p (raised (scaled b low) n)) low (omega arith)

-- ---- division

-- the coefficient that a sum begins with
leads : (b : Bool) → xor (xor (b && true) false) false ≡ b
leads false = refl
leads true = refl

-- long division of n steps undoes a product of n coefficients and what was added to it
pub left_after-sum : (q low r : List Bool) → length r ≡ length low
    → left_after (length q) (plus (times q (true ∷ low)) (widened (length q) r)) (true ∷ low) ≡ r
unfolding left_after
left_after-sum [] low r e =
    let none : suc (length low) - 1 ≡ length low = omega arith in
    rw none (plus-zeros (length low) r e)
left_after-sum (b ∷ q) low r e =
    let m = raised (scaled b low) (length q) in
    let t = times q (true ∷ low) in
    let w = widened (length q) r in
    let m_long : length m ≡ length low + length q = length-raised b low (length q) in
    let t_long : length t ≡ length q + length low = length-times q low in
    let w_long : length w ≡ length q + length r = length-widened (length q) r in
    let rest_long : length (plus t w) ≡ length t = length-plus t w (omega arith) in
    let undone : plus (plus (plus m t) w) m ≡ plus t w =
    ap (λ (x : List Bool). plus x m) (plus_assoc m t w) ∙ plus_assoc m (plus t w) m
    ∙ plus_twice m (plus t w) (omega arith) in
    let P : Bool
    → Type 0 = λ h. left_after (length q)
    (plus (plus (plus m t) w) (raised (scaled h low) (length q))) (true ∷ low) ≡ r in
    subst P (sym (leads b)) (rw undone (left_after-sum q low r e))

-- the quotient of long division: the coefficients at which the divisor was taken away
quotient_of : ℕ → List Bool → List Bool → List Bool
quotient_of zero p low = []
quotient_of (suc n) [] low = []
quotient_of (suc n) (b ∷ p) low = b ∷ quotient_of n (plus p (raised (scaled b low) n)) low

-- it has a coefficient for each step
length-quotient_of : (n : ℕ) (p low : List Bool) → length p ≡ n + length low
    → length (quotient_of n p low) ≡ n
unfolding quotient_of
length-quotient_of zero p low e = refl
length-quotient_of (suc n) [] low e = absurd (omega arith)
length-quotient_of (suc n) (b ∷ p) low e =
    let taken = length-raised b low n in
    let same = length-plus p (raised (scaled b low) n) (omega arith) in
    let rest = length-quotient_of n (plus p (raised (scaled b low) n)) low (omega arith) in
    omega arith

-- the dividend is the quotient times the divisor, and what is left
sum-left_after : (n : ℕ) (p low : List Bool) → length p ≡ n + length low
    → p ≡ plus (times (quotient_of n p low) (true ∷ low)) (widened n (left_after n p (true ∷ low)))
unfolding left_after quotient_of
sum-left_after zero p low e =
    let none : suc (length low) - 1 ≡ length low = omega arith in
    rw none (sym (plus-zeros (length low) p (omega arith)))
sum-left_after (suc n) [] low e = absurd (omega arith)
sum-left_after (suc n) (b ∷ p) low e =
    let m = raised (scaled b low) n in
    let m_long : length m ≡ length low + n = length-raised b low n in
    let p_long : length (plus p m) ≡ length p = length-plus p m (omega arith) in
    let q = quotient_of n (plus p m) low in
    let steps : length q ≡ n = length-quotient_of n (plus p m) low (omega arith) in
    let t = times q (true ∷ low) in
    let w = widened n (left_after n (plus p m) (true ∷ low)) in
    let rest : plus p m ≡ plus t w = sum-left_after n (plus p m) low (omega arith) in
    let whole : plus (plus m t) w ≡ p = plus_assoc m t w
    ∙ ap (λ (x : List Bool). plus m x) (sym rest) ∙ plus_twice m p (omega arith) in
    rw (steps, leads b, whole) refl

-- a division leaves a remainder, which long division finds
pub remainder-exists : (p d : List Bool) → IsMonic d → length d ≤ length p + 1
    → IsRemainder p d (remainder p d)
remainder-exists p d monic enough =
    let P : List Bool → Type 0 = λ x. length x ≤ length p + 1 → IsRemainder p x (remainder p x) in
    subst P (sym monic.leads) (λ fits. exists p monic.rest fits) enough
  where
    exists : (p low : List Bool) → suc (length low) ≤ length p + 1
        → IsRemainder p (true ∷ low) (remainder p (true ∷ low))
    exists p low fits =
        let n = length p + 1 - suc (length low) in
        let long : length p ≡ n + length low = omega arith in
        let steps : length (quotient_of n p low) ≡ n = length-quotient_of n p low long in
        record {
          quotient = quotient_of n p low;
          shorter = let left = length-left_after n p low long in omega arith;
          sums = rw steps (sum-left_after n p low long);
        }

-- it leaves no other
pub remainder-unique : (p d r : List Bool) → IsMonic d → IsRemainder p d r → r ≡ remainder p d
remainder-unique p d r monic left =
    let P : List Bool → Type 0 = λ x. IsRemainder p x r → r ≡ remainder p x in
    subst P (sym monic.leads) (λ is. unique p monic.rest r is) left
  where
    unique : (p low r : List Bool) → IsRemainder p (true ∷ low) r → r ≡ remainder p (true ∷ low)
    unique p low r is =
        let q = is.quotient in
        let short : length r ≡ length low = omega (arith, is.shorter) in
        let t_long = length-times q low in
        let w_long = length-widened (length q) r in
        let long = length-plus (times q (true ∷ low)) (widened (length q) r) (omega arith) in
        let whole = ap length is.sums in
        let steps : length p + 1 - suc (length low) ≡ length q = omega arith in
        rw (steps, is.sums) (sym (left_after-sum q low r short))
