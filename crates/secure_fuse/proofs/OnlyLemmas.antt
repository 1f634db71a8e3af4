-- No other word than the raised one keeps the bits, has the level, and has no new bit above a clear one.
use Rattle.std.proofs.Common.{◌≡◌, inl, inr, ◌≤◌, ◌<◌, ℕ, zero, suc, ◌+◌, ◌-◌, ◌*◌, ◌/◌, ◌%◌, ◌^◌, max, sym, ap, ◌∙◌, arith}
use Rattle.std.specs.Int.{bit_at}
use Rattle.std.proofs.lemmas.Nat.{ones-le}
use Rattle.std.proofs.lemmas.Nat.Bits.{bit_at_lowest, bit_at-suc}
use lib.Count.{ones_step}
use native.Mathlib.Nat.{pow-suc}
use Rattle.secure_fuse.specs.Bits.{level_of, Keeps, filled, raised}
use Rattle.secure_fuse.proofs.BitLemmas.{parity, filled_none, filled_even, filled_odd}

-- no new bit stands above a clear one
abbrev pub FromBelow : ℕ → ℕ → Type 0
FromBelow old new = (bit lower : ℕ) → bit_at new bit ≡ 1 → bit_at old bit ≡ 0 → lower < bit → bit_at new lower ≡ 1

-- half a word of so many places has one place fewer
half_small : (places n : ℕ) → n < 2 ^ suc places → n / 2 < 2 ^ places
half_small places n small = let power = pow-suc 2 places in omega arith

-- the lowest bit is kept
keeps_lowest : (old new : ℕ) → Keeps old new → old % 2 ≡ 1 → new % 2 ≡ 1
keeps_lowest old new keeps odd = sym (bit_at_lowest new) ∙ keeps 0 (bit_at_lowest old ∙ odd)

-- and the others in the half
keeps_half : (old new : ℕ) → Keeps old new → Keeps (old / 2) (new / 2)
keeps_half old new keeps bit set = sym (bit_at-suc new bit) ∙ keeps (suc bit) (bit_at-suc old bit ∙ set)

-- the half of a word with no new bit above a clear one is one too
from_below_half : (old new : ℕ) → FromBelow old new → FromBelow (old / 2) (new / 2)
from_below_half old new from bit lower set clear less =
    sym (bit_at-suc new lower)
    ∙ from (suc bit) (suc lower) (bit_at-suc new bit ∙ set) (bit_at-suc old bit ∙ clear) (omega arith)

-- a word that keeps the bits of another has no lower level
keeps_level : (places old new : ℕ) → old < 2 ^ places → Keeps old new → level_of old ≤ level_of new
keeps_level zero old new small keeps = omega (arith, ones-le 0 old small)
keeps_level (suc places) old new small keeps =
    let before = ones_step old in
    let now = ones_step new in
    let rest = keeps_level places (old / 2) (new / 2) (half_small places old small) (keeps_half old new keeps) in
    elim (parity old) [
      | inl even ↦ omega arith
      | inr odd ↦ let new_odd = keeps_lowest old new keeps odd in omega arith
    ]

-- of 32 places too
pub word_level : (old new : ℕ) → old < 2 ^ 32 → Keeps old new → level_of old ≤ level_of new
word_level old new small keeps = keeps_level 32 old new small keeps

-- a word that keeps the bits of another and has its level is that word
keeps_same : (places old new : ℕ) → old < 2 ^ places → new < 2 ^ places → Keeps old new
    → level_of new ≡ level_of old → new ≡ old
keeps_same zero old new old_small new_small keeps same = omega arith
keeps_same (suc places) old new old_small new_small keeps same =
    let before = ones_step old in
    let now = ones_step new in
    let half = keeps_half old new keeps in
    let small = half_small places old old_small in
    let least = keeps_level places (old / 2) (new / 2) small half in
    let rest = keeps_same places (old / 2) (new / 2) small (half_small places new new_small) half in
    elim (parity old) [
      | inl even ↦ elim (parity new) [
        | inl new_even ↦ let halves = rest (omega arith) in omega arith
        | inr new_odd ↦ absurd (omega arith)
      ]
      | inr odd ↦
          let new_odd = keeps_lowest old new keeps odd in
          let halves = rest (omega arith) in
          omega arith
    ]

-- where the lowest bit of such a word is clear, no bit is new
no_new_bit : (old new : ℕ) → FromBelow old new → new % 2 ≡ 0 → Keeps new old
no_new_bit old new from even zero set = absurd (omega (arith, bit_at_lowest new, set, even))
no_new_bit old new from even (suc bit) set =
    elim (parity (old / 2 ^ suc bit)) [
      | inl clear ↦
          absurd (omega (arith, bit_at_lowest new, even, from (suc bit) 0 set clear (omega arith)))
      | inr kept ↦ kept
    ]

-- so a higher level has the lowest bit burnt
lowest_is_burnt : (places old new : ℕ) → new < 2 ^ places → FromBelow old new
    → level_of old < level_of new → new % 2 ≡ 1
lowest_is_burnt places old new small from higher =
    elim (parity new) [
      | inl even ↦ absurd (omega (arith, keeps_level places new old small (no_new_bit old new from even)))
      | inr odd ↦ odd
    ]

-- so the word is the one with so many of the lowest clear bits burnt
only_filled : (places more old new : ℕ) → old < 2 ^ places → new < 2 ^ places → Keeps old new
    → level_of new ≡ level_of old + more → FromBelow old new → new ≡ filled places more old
only_filled places zero old new old_small new_small keeps level from =
    keeps_same places old new old_small new_small keeps (level ∙ omega arith) ∙ sym (filled_none places old)
only_filled zero (suc more) old new old_small new_small keeps level from =
    absurd (omega (arith, level, ones-le 0 new new_small))
only_filled (suc places) (suc more) old new old_small new_small keeps level from =
    let before = ones_step old in
    let now = ones_step new in
    let odd = lowest_is_burnt (suc places) old new new_small from (omega (arith, level)) in
    let rest : (some : ℕ) → level_of (new / 2) ≡ level_of (old / 2) + some
    → new / 2 ≡ filled places some (old / 2) = λ some half_level. only_filled places some (old / 2) (new / 2) (half_small places old old_small)
    (half_small places new new_small) (keeps_half old new keeps) half_level (from_below_half old new from) in
    let whole : new ≡ 1 + 2 * (new / 2) = omega arith in
    elim (parity old) [
      | inl even ↦ whole ∙ ap (λ n. 1 + 2 * n) (rest more (omega arith)) ∙ sym (filled_even places more old even)
      | inr old_odd ↦ whole ∙ ap (λ n. 1 + 2 * n) (rest (suc more) (omega arith)) ∙ sym (filled_odd places more old old_odd)
    ]

-- and of 32 places the raised word
pub only_raised : (old want new : ℕ) → old < 2 ^ 32 → new < 2 ^ 32 → Keeps old new
    → level_of new ≡ max (level_of old) want → FromBelow old new → new ≡ raised old want
only_raised old want new old_small new_small keeps level from =
    only_filled 32 (want - level_of old) old new old_small new_small keeps (level ∙ omega arith) from
