-- Hex digits: what a shift and a mask give, and what number they spell.
use Rattle.std.proofs.Common.{◌≡◌, ℕ, zero, suc, ◌+◌, ◌-◌, ◌*◌, ◌/◌, ◌%◌, ◌^◌, ◌<◌, ◌∷◌, refl, sym, ap, ◌∙◌, arith, lit<}
use Rattle.std.proofs.Math.Nat.{pow-suc, pow-succ', mod-eq_of_lt}
use Rattle.std.proofs.lemmas.Nat.{and_mask, pow-add}
use lib.Arith.{mod-mul}
use Rattle.std.specs.Char.{digit_value}
use Rattle.std.specs.Int.Bits.{bit_and}
use Rattle.std.specs.Str.Parse.{digits_value, digits_value_after}
use Rattle.pipe_ends.specs.Hex.{hex_glyph, hex_text}

-- four bits are one hex digit
sixteen : (place : ℕ) → 2 ^ (4 * place) ≡ 16 ^ place
sixteen zero = refl
sixteen (suc place) =
    let four : 4 * suc place ≡ 4 * place + 4 = omega arith in
    rw four (pow-add 2 (4 * place) 4 ∙ ap (λ x. x * 16) (sixteen place) ∙ sym (pow-suc 16 place))

-- a shift and a mask give the digit at a place
shifted : (n place : ℕ) → bit_and (n / 2 ^ (4 * place)) 15 ≡ n / 16 ^ place % 16
shifted n place = and_mask (n / 2 ^ (4 * place)) 4 ∙ ap (λ x. n / x % 16) (sixteen place)

-- the digit below a place, and then those below it, are those below the place
pub hex_text-step : (n place digit : ℕ) → 0 < place → digit ≡ hex_glyph (bit_and (n / 2 ^ (4 * (place - 1))) 15) → digit ∷ hex_text (place - 1) n ≡ hex_text place n
hex_text-step n zero digit h is = absurd (omega arith)
hex_text-step n (suc place) digit h is =
    let below : suc place - 1 ≡ place = omega arith in
    rw (is, below, shifted n place) refl

-- a glyph stands for its digit
digit_value-glyph : (digit : ℕ) → digit < 16 → digit_value (hex_glyph digit) ≡ digit
digit_value-glyph digit h = grind arith

-- after digits that spell a number, the digits of another spell its rest besides
spelled_after : (digits before number : ℕ) → digits_value_after 16 before (hex_text digits number) ≡ before * 16 ^ digits + number % 16 ^ digits
spelled_after zero before number = omega arith
spelled_after (suc place) before number =
    let here = number / 16 ^ place % 16 in
    let small : here < 16 = omega arith in
    let power : 16 ^ suc place ≡ 16 * 16 ^ place = pow-succ' 16 place in
    let rest : number % (16 * 16 ^ place) ≡ here * 16 ^ place + number % 16 ^ place = mod-mul number {m = 16} {c = 16 ^ place} (lit< tt) (pos place) in
    ap (λ d. digits_value_after 16 (before * 16 + d) (hex_text place number)) (digit_value-glyph here small)
    ∙ spelled_after place (before * 16 + here) number
    ∙ rw (power, rest) (regroup before here (16 ^ place) (number % 16 ^ place))
  where
    pos : (k : ℕ) → 0 < 16 ^ k
    pos zero = lit< tt
    pos (suc k) = let more = pos k in rw (pow-succ' 16 k) (omega arith)

    regroup : (a d p r : ℕ) → (a * 16 + d) * p + r ≡ a * (16 * p) + (d * p + r)
    regroup a d p r = omega arith

-- as many digits as a number needs spell it
pub hex_text_spells : (digits number : ℕ) → number < 16 ^ digits → digits_value 16 (hex_text digits number) ≡ number
hex_text_spells digits number fits = spelled_after digits 0 number ∙ (omega (arith, mod-eq_of_lt fits))
