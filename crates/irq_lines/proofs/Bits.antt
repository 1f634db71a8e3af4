-- What one step does to one line, whose pending bit is 0 or 1.
use Rattle.std.proofs.Common.{◌≡◌, ◌==◌, ℕ, zero, suc, ◌+◌, ◌-◌, ◌<◌, ◌≤◌, ◌∙◌, ap, sym, refl, Bool, true, false, bit_and, bit_or, arith}
use Rattle.std.specs.Prelude.{min, max, if◌then◌else◌}
use Rattle.std.specs.Int.{bit_at, bit_not, w32}
use Rattle.std.proofs.lemmas.Nat.Bits.{bit_at_and, bit_at_or, bit_at_not, bit_at-lt}
use Rattle.irq_lines.specs.declared.view.Act.{Act}
use Rattle.irq_lines.specs.declared.view.Act.TheVariants.{Raised, Served}
use Rattle.irq_lines.specs.Story.{IsPlain, word_by, calls_in, fresh_in, served_in}

zero_plus : (n : ℕ) → 0 + n ≡ n
zero_plus n = omega arith

-- a line that is raised: it was clear, or it was pending
set_bit : (a b : ℕ) → a < 2 → b < 2 → min b (1 - a) + a ≡ max a b
set_bit zero zero x y = refl
set_bit zero (suc zero) x y = refl
set_bit (suc zero) zero x y = refl
set_bit (suc zero) (suc zero) x y = refl
set_bit (suc (suc a)) b x y = absurd (omega arith)
set_bit zero (suc (suc b)) x y = absurd (omega arith)
set_bit (suc zero) (suc (suc b)) x y = absurd (omega arith)

-- a line that is served: it was within the mask, or it is as it was
clear_bit : (a m : ℕ) → a < 2 → m < 2 → a ≡ min a m + min a (1 - m)
clear_bit zero zero x y = refl
clear_bit zero (suc zero) x y = refl
clear_bit (suc zero) zero x y = refl
clear_bit (suc zero) (suc zero) x y = refl
clear_bit (suc (suc a)) m x y = absurd (omega arith)
clear_bit zero (suc (suc m)) x y = absurd (omega arith)
clear_bit (suc zero) (suc (suc m)) x y = absurd (omega arith)

set_least : (a b : ℕ) → a < 2 → b < 2 → 1 ≤ b → 1 ≤ min b (1 - a) + a
set_least zero zero x y z = absurd (omega arith)
set_least zero (suc zero) x y z = omega arith
set_least (suc zero) b x y z = omega arith
set_least (suc (suc a)) b x y z = absurd (omega arith)
set_least zero (suc (suc b)) x y z = absurd (omega arith)

min_le : (a b : ℕ) → a < 2 → min a b ≤ a
min_le zero b x = omega arith
min_le (suc zero) b x = omega arith
min_le (suc (suc a)) b x = absurd (omega arith)

module _ (k l n : ℕ) (line : l < 32) where
  -- raises that found the line clear, and the bit before, are serves, and the bit after
  pub step_even : (act : Act) → IsPlain act
      → fresh_in k l n act + bit_at n l ≡ served_in k l n act + bit_at (word_by k n act) l
  step_even (Raised core bits) plain = by_core (core == k)
    where
      by_core : (t : Bool)
          → (if t then min (bit_at bits l) (1 - bit_at n l) else 0) + bit_at n l
          ≡ 0 + bit_at (if t then bit_or n bits else n) l
      by_core true = set_bit (bit_at n l) (bit_at bits l) (bit_at-lt n l) (bit_at-lt bits l)
          ∙ (sym (bit_at_or n bits l) ∙ sym (zero_plus (bit_at (bit_or n bits) l)))
      by_core false = refl
  step_even (Served core mask) plain = by_core (core == k)
    where
      by_core : (t : Bool)
          → 0 + bit_at n l
          ≡ (if t then min (bit_at n l) (bit_at mask l) else 0)
          + bit_at (if t then bit_and n (bit_not w32 mask) else n) l
      by_core true = zero_plus (bit_at n l)
          ∙ (clear_bit (bit_at n l) (bit_at mask l) (bit_at-lt n l) (bit_at-lt mask l)
          ∙ ap (λ x. min (bit_at n l) (bit_at mask l) + x)
          (ap (λ x. min (bit_at n l) x) (sym (bit_at_not w32 mask l plain line))
          ∙ sym (bit_at_and n (bit_not w32 mask) l)))
      by_core false = refl

  -- a raise that found the line clear is a call for it
  pub fresh_le : (act : Act) → fresh_in k l n act ≤ calls_in k l n act
  fresh_le (Raised core bits) = by_core (core == k)
    where
      by_core : (t : Bool)
          → (if t then min (bit_at bits l) (1 - bit_at n l) else 0)
          ≤ (if t then bit_at bits l else 0)
      by_core true = min_le (bit_at bits l) (1 - bit_at n l) (bit_at-lt bits l)
      by_core false = omega arith
  fresh_le (Served core mask) = omega arith

  -- where there is a call for it, it found the line clear or pending
  pub fresh_or_set : (act : Act) → 1 ≤ calls_in k l n act → 1 ≤ fresh_in k l n act + bit_at n l
  fresh_or_set (Raised core bits) called = by_core (core == k) called
    where
      by_core : (t : Bool) → 1 ≤ (if t then bit_at bits l else 0)
          → 1 ≤ (if t then min (bit_at bits l) (1 - bit_at n l) else 0) + bit_at n l
      by_core true called =
          set_least (bit_at n l) (bit_at bits l) (bit_at-lt n l) (bit_at-lt bits l) called
      by_core false called = absurd (omega arith)
  fresh_or_set (Served core mask) called = absurd (omega arith)
