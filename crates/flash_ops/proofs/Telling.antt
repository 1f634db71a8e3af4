-- Points that a pace was told of, one call behind the other.
use Rattle.std.proofs.Common.{◌≡◌, ℕ, inl, inr, subst, arith}
use Rattle.std.proofs.lemmas.Bool.{cases_lt}
use Rattle.flash_ops.specs.declared.pace.Point.{Point}
use Rattle.flash_ops.specs.declared.pace.Point.TheVariants.{DriverOp, DriverOpDone}
use Rattle.flash_ops.specs.Told.{ToldOf}

-- where no period was counted, there is none to tell of
pub told_none : (told : Point → Type 0) (before now : ℕ) → now ≡ before → ToldOf told before now
told_none told before now same n over within =
    let none : ⊥ = omega (arith, same, over, within) in absurd none

-- the periods of a call behind those before it, where the pace is the same one
pub told_then : {B : Type 0} (told : B → Point → Type 0) (pace same : B) (before mid now : ℕ)
    → same ≡ pace → ToldOf (told pace) before mid → ToldOf (told same) mid now
    → ToldOf (told pace) before now
told_then told pace same before mid now is first later n over within = elim (cases_lt mid n) [
  | inl behind ↦
      subst (λ p. told p (DriverOp n) × told p (DriverOpDone n)) is (later n behind within)
  | inr among ↦ first n over among
]
