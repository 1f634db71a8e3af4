-- Words of bits: what a burn makes of each bit and of the level, and what burning the lowest clear bits does.
use Rattle.std.proofs.Common.{◌≡◌, ◌≢◌, ◌⊎◌, inl, inr, ◌≤◌, ◌<◌, ℕ, zero, suc, ◌+◌, ◌*◌, ◌/◌, ◌%◌, ◌^◌, ◌==◌, max, if◌then◌else◌, List, [], ◌∷◌, bit_or, count_ones, refl, sym, ap, ◌∙◌, arith}
use Rattle.std.specs.Int.{bit_at}
use Rattle.std.proofs.lemmas.Nat.{or_shr, or_disjoint, and_le_r, mod_below}
use Rattle.std.proofs.lemmas.Nat.Bits.{bit_at_lowest, bit_at-suc, bit_at_or, bit_at-pow_same, bit_at-pow_other, bit_at-lt}
use lib.Count.{ones_step}
use native.Mathlib.Nat.{pow-suc}
use Rattle.secure_fuse.specs.Bits.{burned, level_of, Keeps, MayBeLeftOf, filled}

-- the bit is burnt
pub burned_set : (bits bit : ℕ) → bit_at (burned bits bit) bit ≡ 1
burned_set bits bit =
    let both = bit_at_or bits (2 ^ bit) bit in
    let one = bit_at-pow_same bit in
    let small = bit_at-lt bits bit in
    both ∙ ap (λ x. max (bit_at bits bit) x) one ∙ omega arith

-- and no other
pub burned_other : (bits bit other : ℕ) → other ≢ bit → bit_at (burned bits bit) other ≡ bit_at bits other
burned_other bits bit other differs =
    let both = bit_at_or bits (2 ^ bit) other in
    let none = bit_at-pow_other bit other differs in
    both ∙ ap (λ x. max (bit_at bits other) x) none ∙ omega arith

-- so none is lost
pub burned_keeps : (bits bit : ℕ) → Keeps bits (burned bits bit)
burned_keeps bits bit other set =
    let both = bit_at_or bits (2 ^ bit) other in
    let small = bit_at-lt (2 ^ bit) other in
    both ∙ ap (λ x. max x (bit_at (2 ^ bit) other)) set ∙ omega arith

-- the lowest bit of a word whose lowest bit is burnt, and the others
burned_zero_half : (bits : ℕ) → burned bits 0 / 2 ≡ bits / 2
burned_zero_half bits =
    or_shr bits 1 1 ∙ or_disjoint (bits / 2) 0 (omega (arith, and_le_r (bits / 2) 0)) ∙ omega arith

burned_zero_odd : (bits : ℕ) → burned bits 0 % 2 ≡ 1
burned_zero_odd bits = sym (bit_at_lowest (burned bits 0)) ∙ burned_set bits 0

burned_suc_half : (bits bit : ℕ) → burned bits (suc bit) / 2 ≡ burned (bits / 2) bit
burned_suc_half bits bit =
    let power = pow-suc 2 bit in
    let half : 2 ^ suc bit / 2 ≡ 2 ^ bit = omega arith in
    or_shr bits (2 ^ suc bit) 1 ∙ ap (bit_or (bits / 2)) half

burned_suc_odd : (bits bit : ℕ) → burned bits (suc bit) % 2 ≡ bits % 2
burned_suc_odd bits bit = sym (bit_at_lowest (burned bits (suc bit)))
    ∙ burned_other bits (suc bit) 0 (λ e. omega arith) ∙ bit_at_lowest bits

-- a clear bit that is burnt raises the level by one
pub level_burned : (bits bit : ℕ) → bit_at bits bit ≡ 0 → level_of (burned bits bit) ≡ level_of bits + 1
level_burned bits zero clear =
    let now = ones_step (burned bits 0) in
    let before = ones_step bits in
    let odd = burned_zero_odd bits in
    let half = ap count_ones (burned_zero_half bits) in
    let even : bits % 2 ≡ 0 = sym (bit_at_lowest bits) ∙ clear in
    omega arith
level_burned bits (suc bit) clear =
    let now = ones_step (burned bits (suc bit)) in
    let before = ones_step bits in
    let odd = burned_suc_odd bits bit in
    let half = ap count_ones (burned_suc_half bits bit) in
    let rest = level_burned (bits / 2) bit (sym (bit_at-suc bits bit) ∙ clear) in
    omega arith

-- a number is even or odd
pub parity : (n : ℕ) → (n % 2 ≡ 0) ⊎ (n % 2 ≡ 1)
parity n = grind (arith, mod_below n 2 (omega arith))

-- no more bits are burnt
pub filled_none : (places bits : ℕ) → filled places 0 bits ≡ bits
unfolding filled
filled_none zero bits = refl
filled_none (suc places) bits = refl

-- the lowest bit is burnt where it is clear
pub filled_even : (places more bits : ℕ) → bits % 2 ≡ 0
    → filled (suc places) (suc more) bits ≡ 1 + 2 * filled places more (bits / 2)
unfolding filled
filled_even places more bits even =
    ap (λ r. 1 + 2 * filled places (if r == 1 then suc more else more) (bits / 2)) even

-- and else the next ones
pub filled_odd : (places more bits : ℕ) → bits % 2 ≡ 1
    → filled (suc places) (suc more) bits ≡ 1 + 2 * filled places (suc more) (bits / 2)
unfolding filled
filled_odd places more bits odd =
    ap (λ r. 1 + 2 * filled places (if r == 1 then suc more else more) (bits / 2)) odd

-- the bit is clear, and each below it is burnt
pub record IsLowestClear (word place : ℕ) : Type 0 where
  pub clear : bit_at word place ≡ 0
  pub below : (lower : ℕ) → lower < place → bit_at word lower ≡ 1

-- a bit of an odd number, above the lowest, is one of its half
pub bit_of_half : (word half place : ℕ) → word ≡ 1 + 2 * half → bit_at word (suc place) ≡ bit_at half place
bit_of_half word half place is =
    let same : word / 2 ≡ half = omega arith in
    bit_at-suc word place ∙ ap (λ n. bit_at n place) same

-- the lowest bit of an odd number is burnt
pub bit_of_odd : (word half : ℕ) → word ≡ 1 + 2 * half → bit_at word 0 ≡ 1
bit_of_odd word half is = bit_at_lowest word ∙ omega arith

-- of an odd word, the lowest clear bit is that of its half
pub clear_of_half : (word half place : ℕ) → word ≡ 1 + 2 * half → IsLowestClear word (suc place)
    → IsLowestClear half place
clear_of_half word half place is lowest = record {
  clear = sym (bit_of_half word half place is) ∙ lowest.clear;
  below = λ lower less. sym (bit_of_half word half lower is) ∙ lowest.below (suc lower) (omega arith);
}

-- burning it burns that of the half
pub burned_of_half : (word half place : ℕ) → word ≡ 1 + 2 * half
    → burned word (suc place) ≡ 1 + 2 * burned half place
burned_of_half word half place is =
    let same : word / 2 ≡ half = omega arith in
    let above = burned_suc_half word place ∙ ap (λ n. burned n place) same in
    let lowest = burned_suc_odd word place in
    omega arith

-- one more of the lowest clear bits is the lowest one that is still clear
pub filled_next : (places more bits place : ℕ) → place < places → IsLowestClear (filled places more bits) place
    → filled places (suc more) bits ≡ burned (filled places more bits) place
filled_next zero more bits place less lowest = absurd (omega arith)
filled_next (suc places) zero bits zero less lowest =
    let word = filled_none (suc places) bits in
    let even : bits % 2 ≡ 0 = sym (bit_at_lowest bits) ∙ sym (ap (λ n. bit_at n 0) word) ∙ lowest.clear in
    let half = burned_zero_half bits in
    let odd = burned_zero_odd bits in
    let rest = filled_none places (bits / 2) in
    filled_even places 0 bits even ∙ ap (λ n. 1 + 2 * n) rest ∙ omega arith ∙ sym (ap (λ n. burned n 0) word)
filled_next (suc places) zero bits (suc place) less lowest =
    let word = filled_none (suc places) bits in
    let odd : bits % 2 ≡ 1 = sym (bit_at_lowest bits) ∙ sym (ap (λ n. bit_at n 0) word) ∙ lowest.below 0 (omega arith) in
    let rest = filled_none places (bits / 2) in
    let is : filled (suc places) 0 bits ≡ 1 + 2 * filled places 0 (bits / 2) = omega arith in
    filled_odd places 0 bits odd
    ∙ ap (λ n. 1 + 2 * n) (filled_next places 0 (bits / 2) place (omega arith) (clear_of_half _ _ place is lowest))
    ∙ sym (burned_of_half _ _ place is)
filled_next (suc places) (suc more) bits place less lowest =
    elim (parity bits) [
      | inl even ↦ next_of_half _ _ _ _ place (filled_even places more bits even)
          (filled_even places (suc more) bits even) lowest
          (λ lower is. filled_next places more (bits / 2) lower (omega arith))
      | inr odd ↦ next_of_half _ _ _ _ place (filled_odd places more bits odd)
          (filled_odd places (suc more) bits odd) lowest
          (λ lower is. filled_next places (suc more) (bits / 2) lower (omega arith))
    ]
  where
    next_of_half : (word half next next_half place : ℕ) → word ≡ 1 + 2 * half → next ≡ 1 + 2 * next_half
        → IsLowestClear word place
        → ((lower : ℕ) → place ≡ suc lower → IsLowestClear half lower → next_half ≡ burned half lower)
        → next ≡ burned word place
    next_of_half word half next next_half zero is next_is lowest rest =
        absurd (omega (arith, bit_of_odd word half is, lowest.clear))
    next_of_half word half next next_half (suc place) is next_is lowest rest =
        next_is ∙ ap (λ n. 1 + 2 * n) (rest place refl (clear_of_half word half place is lowest))
        ∙ sym (burned_of_half word half place is)

-- so many more bits raise the level by so many, where there are as many places
pub level_filled : (places more bits : ℕ) → bits < 2 ^ places → level_of bits + more ≤ places
    → level_of (filled places more bits) ≡ level_of bits + more
unfolding filled
level_filled zero more bits small room = omega arith
level_filled (suc places) zero bits small room = omega arith
level_filled (suc places) (suc more) bits small room =
    let power = pow-suc 2 places in
    let before = ones_step bits in
    elim (parity bits) [
      | inl even ↦
          let is = filled_even places more bits even in
          let rest = level_filled places more (bits / 2) (omega arith) (omega arith) in
          level_of_odd _ _ is ∙ omega arith
      | inr odd ↦
          let is = filled_odd places more bits odd in
          let rest = level_filled places (suc more) (bits / 2) (omega arith) (omega arith) in
          level_of_odd _ _ is ∙ omega arith
    ]
  where
    level_of_odd : (word half : ℕ) → word ≡ 1 + 2 * half → level_of word ≡ 1 + level_of half
    level_of_odd word half is =
        let same : word / 2 ≡ half = omega arith in
        let odd : word % 2 ≡ 1 = omega arith in
        let step = ones_step word in
        let rest = ap count_ones same in
        omega arith

-- no bit is lost
pub filled_keeps : (places more bits : ℕ) → Keeps bits (filled places more bits)
unfolding filled
filled_keeps zero more bits bit set = set
filled_keeps (suc places) zero bits bit set = set
filled_keeps (suc places) (suc more) bits zero set = bit_of_odd _ _ refl
filled_keeps (suc places) (suc more) bits (suc bit) set =
    bit_of_half _ _ bit refl ∙ filled_keeps places _ (bits / 2) bit (sym (bit_at-suc bits bit) ∙ set)

-- and none of the new ones stands above a clear one
pub filled_lowest : (places more bits bit lower : ℕ) → bit_at (filled places more bits) bit ≡ 1
    → bit_at bits bit ≡ 0 → lower < bit → bit_at (filled places more bits) lower ≡ 1
unfolding filled
filled_lowest zero more bits bit lower set clear less = absurd (omega arith)
filled_lowest (suc places) zero bits bit lower set clear less = absurd (omega arith)
filled_lowest (suc places) (suc more) bits bit zero set clear less = bit_of_odd _ _ refl
filled_lowest (suc places) (suc more) bits zero (suc lower) set clear less = absurd (omega arith)
filled_lowest (suc places) (suc more) bits (suc bit) (suc lower) set clear less =
    bit_of_half _ _ lower refl ∙ filled_lowest places _ (bits / 2) bit lower
    (sym (bit_of_half _ _ bit refl) ∙ set) (sym (bit_at-suc bits bit) ∙ clear) (omega arith)

-- over a list of burns no bit is lost
pub burns_keep : (bits : ℕ) (burns : List ℕ) (left : ℕ) → MayBeLeftOf bits burns left → Keeps bits left
burns_keep bits [] left is bit set = ap (λ n. bit_at n bit) is ∙ set
burns_keep bits (first ∷ burns) left (inl is) bit set = ap (λ n. bit_at n bit) is ∙ set
burns_keep bits (first ∷ burns) left (inr (next, inl is, rest)) bit set =
    burns_keep next burns left rest bit (ap (λ n. bit_at n bit) is ∙ set)
burns_keep bits (first ∷ burns) left (inr (next, inr is, rest)) bit set =
    burns_keep next burns left rest bit (ap (λ n. bit_at n bit) is ∙ burned_keeps bits first bit set)

-- one burn never lowers the level
pub level_rises : (bits bit : ℕ) → level_of bits ≤ level_of (burned bits bit)
level_rises bits zero =
    let now = ones_step (burned bits 0) in
    let before = ones_step bits in
    let odd = burned_zero_odd bits in
    let half = ap count_ones (burned_zero_half bits) in
    let small = mod_below bits 2 (omega arith) in
    omega arith
level_rises bits (suc bit) =
    let now = ones_step (burned bits (suc bit)) in
    let before = ones_step bits in
    let odd = burned_suc_odd bits bit in
    let half = ap count_ones (burned_suc_half bits bit) in
    let rest = level_rises (bits / 2) bit in
    omega arith

-- nor does a list of them
pub burns_raise : (bits : ℕ) (burns : List ℕ) (left : ℕ) → MayBeLeftOf bits burns left
    → level_of bits ≤ level_of left
burns_raise bits [] left is = let same = ap count_ones is in omega arith
burns_raise bits (first ∷ burns) left (inl is) = let same = ap count_ones is in omega arith
burns_raise bits (first ∷ burns) left (inr (next, inl is, rest)) =
    let same = ap count_ones is in
    let more = burns_raise next burns left rest in
    omega arith
burns_raise bits (first ∷ burns) left (inr (next, inr is, rest)) =
    let same = ap count_ones is in
    let more = burns_raise next burns left rest in
    let one = level_rises bits first in
    omega arith
