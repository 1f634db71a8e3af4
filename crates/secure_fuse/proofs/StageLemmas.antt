-- The words on the way to a level, and where the lowest clear bit stands.
use Rattle.std.proofs.Common.{◌≡◌, inl, inr, ◌≤◌, ◌<◌, ℕ, suc, ◌+◌, ◌-◌, ◌^◌, max, count_ones, Result, Ok, Err, OnErr, sym, ap, ◌∙◌, subst, arith}
use Rattle.std.specs.Int.{w32, trailing_ones}
use Rattle.std.proofs.lemmas.Nat.{ones-le}
use Rattle.std.proofs.lemmas.Nat.Bits.{bit_at-trailing_ones}
use lib.Count.{ones-ones}
use native.Mathlib.Nat.{eq-or-lt_of_le}
use Rattle.secure_fuse.specs.Bits.{burned, level_of, filled, raised, IsStage, MayBeLeft}
use Rattle.secure_fuse.specs.Fuses.{more, one_more, IsCalled}
use Rattle.secure_fuse.proofs.BitLemmas.{IsLowestClear, filled_next, level_filled, filled_keeps, level_burned}

-- a word whose level is below 32 has a clear bit
pub is_not_full : (word : ℕ) → word < 2 ^ 32 → level_of word < 32 → word + 1 < 2 ^ 32
is_not_full word small low =
    elim (eq-or-lt_of_le (small_is word small)) [
      | inl is ↦ absurd (omega (arith, ones-ones 32, ap count_ones is))
      | inr less ↦ omega arith
    ]
  where
    small_is : (word : ℕ) → word < 2 ^ 32 → word ≤ 2 ^ 32 - 1
    small_is word small = omega arith

-- and this is the lowest one
pub lowest_clear : (word : ℕ) → word < 2 ^ 32 → level_of word < 32 → IsLowestClear word (trailing_ones w32 word)
lowest_clear word small low =
    let all = bit_at-trailing_ones w32 word (is_not_full word small low) in
    record { clear = all.1; below = all.2 }

-- it is one of the 32
pub lowest_below : (word : ℕ) → word < 2 ^ 32 → level_of word < 32 → trailing_ones w32 word < 32
lowest_below word small low = (bit_at-trailing_ones w32 word (is_not_full word small low)).0

-- the word with so many of the lowest clear bits burnt is on the way
pub stage_of : (old want n : ℕ) → old < 2 ^ 32 → level_of old + n ≤ 32 → level_of old + n ≤ max (level_of old) want
    → IsStage old want (filled 32 n old)
stage_of old want n small room low =
    let level = level_filled 32 n old small room in
    record {
      kept = filled_keeps 32 n old;
      rises = omega arith;
      level = omega arith;
      lowest = ap (λ more. filled 32 more old) (omega arith);
    }

-- a word of 32 bits has at most this level, and a raised one the level that was wanted
pub level_raised : (bits want : ℕ) → bits < 2 ^ 32 → want ≤ 32 → level_of (raised bits want) ≡ max (level_of bits) want
level_raised bits want small fits =
    let most = ones-le 32 bits small in
    level_filled 32 (want - level_of bits) bits small (omega arith) ∙ omega arith

-- a turn of the loop: the level has come to `i`, and the lowest clear bit is burnt next
module _ (old now want i : ℕ) (small : old < 2 ^ 32) (word : now < 2 ^ 32)
    (is : now ≡ filled 32 (i - level_of old) old) (level : level_of now ≡ i)
    (start : level_of old ≤ i) (low : i < want) (most : want ≤ 32) where
  -- the bit that is burnt next
  abbrev next : ℕ
  next = trailing_ones w32 now

  -- it is the lowest clear one
  next_clear : IsLowestClear now next
  next_clear = lowest_clear now word (omega arith)

  -- burning it leaves one more of the lowest clear bits burnt
  pub next_word : burned now next ≡ filled 32 (i + 1 - level_of old) old
  next_word =
      let more : i + 1 - level_of old ≡ suc (i - level_of old) = omega arith in
      let step = filled_next 32 (i - level_of old) old next (lowest_below now word (omega arith))
      (subst (λ n. IsLowestClear n next) is next_clear) in
      ap (λ n. burned n next) is ∙ sym step ∙ ap (λ n. filled 32 n old) (sym more)

  -- and the level one higher
  pub next_level : level_of (burned now next) ≡ i + 1
  next_level = level_burned now next next_clear.clear ∙ omega arith

  -- whatever the burn leaves is on the way
  pub next_stage : (left : ℕ) → MayBeLeft now next left → IsStage old want left
  next_stage left (inl same) =
      subst (IsStage old want) (sym (same ∙ is)) (stage_of old want (i - level_of old) small (omega arith) (omega arith))
  next_stage left (inr burnt) =
      subst (IsStage old want) (sym (burnt ∙ next_word))
      (stage_of old want (i + 1 - level_of old) small (omega arith) (omega arith))

  -- and the calls are one a level, or one more
  pub next_called : (before calls after left : ℕ) → calls ≡ more (i - level_of old) before → after ≡ one_more calls
      → MayBeLeft now next left → IsCalled (level_of left - level_of old) before after
  next_called before calls after left made one (inl same) =
      let here : level_of left ≡ i = ap level_of same ∙ level in
      let rise : i - level_of old ≡ level_of left - level_of old = omega arith in
      inr (one ∙ ap one_more made ∙ ap (λ n. more (suc n) before) rise)
  next_called before calls after left made one (inr burnt) =
      let here : level_of left ≡ i + 1 = ap level_of burnt ∙ next_level in
      let rise : suc (i - level_of old) ≡ level_of left - level_of old = omega arith in
      inl (one ∙ ap one_more made ∙ ap (λ n. more n before) rise)

-- a fact holds in the case of an error, if it holds
pub on_err_so : {T E : Type 0} (result : Result T E) (P : Type 0) → P → OnErr result P
on_err_so (Ok done) P holds = tt
on_err_so (Err why) P holds = holds
