use Rattle.std.proofs.Common.{◌≡◌, ◌<◌, ℕ, zero, suc, [], ◌∷◌, slice_index, slice_index_or, replicate, refl, arith}
use Rattle.irq_lines.specs.Counts.{AreZero}
use Rattle.irq_lines.proofs.counts.no_counts.Goals as goal

-- a row of zeros has 0 at each place
none_in : (m l : ℕ) → slice_index (replicate m 0) l ≡ 0
none_in zero l = refl
none_in (suc m) zero = refl
none_in (suc m) (suc l) = none_in m l

zeros : AreZero (replicate 32 0 ∷ replicate 32 0 ∷ [])
zeros = λ k. by_core k
  where
    by_core : (k l : ℕ) → k < 2 → l < 32
        → slice_index (slice_index_or (replicate 32 0 ∷ replicate 32 0 ∷ []) k []) l ≡ 0
    by_core zero l small line = none_in 32 l
    by_core (suc zero) l small line = none_in 32 l
    by_core (suc (suc k)) l small line = absurd (omega arith)

pub returns : goal.returns
returns c = zeros
