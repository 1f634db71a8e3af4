-- The ends of steps by the choice, and that a device in memory adds none.
use Rattle.std.specs.Prelude.{◌≡◌, ◌↔◌, ℕ, ◌<◌, List, Option, Some, None, refl}
use Rattle.std.proofs.Common.{inl, inr, arith}
use Rattle.nor_device.specs.declared.step.Step.{Step}
use Rattle.nor_device.specs.declared.nor.StepEnd.{StepEnd}
use Rattle.nor_device.specs.declared.nor.StepEnd.TheVariants as ends
use Rattle.nor_device.specs.declared.nor.NorFault.{NorFault}
use Rattle.nor_device.specs.declared.nor.NorFault.TheVariants as faults
use Rattle.nor_device.specs.Nor.{end_by}
use Rattle.crash_images.specs.declared.cut.CutSetting.{CutSetting}
use Rattle.crash_images.specs.declared.cut.Health.{Health}
use Rattle.crash_images.specs.declared.cut.Health.TheVariants.{Sound, Due, Off, Failed}
use Rattle.crash_images.specs.Tear.{torn_by}
use Rattle.crash_images.specs.TearStep.{MayRefuse}
use Rattle.crash_images.specs.Cut.{running_by, IsAhead, NotBoth, IsBad, EndsBy, CutMayEnd, CutMayTear, CutMayRefuse}

-- where no step runs, none runs inside
pub idle_inside : (health : Health) (inner : Option Step) → running_by health inner ≡ None
    → inner ≡ None
idle_inside Sound inner idle = idle
idle_inside (Due step) inner idle = absurd (cc idle)
idle_inside Off inner idle = idle
idle_inside Failed inner idle = idle

-- no step is refused so that it is done
never_done : (why : NorFault) → end_by why ≡ ends.Done → ⊥
never_done faults.Failed is = cc is
never_done faults.Off is = cc is

module _ (may_end : Unit {0} → ℕ → StepEnd → Type 0) (may_refuse : Unit {0} → ℕ → NorFault → Type 0)
    (only_done : (set : Unit {0}) (n : ℕ) (end : StepEnd) → may_end set n end → end ≡ ends.Done)
    (none : (set : Unit {0}) (n : ℕ) (why : NorFault) → may_refuse set n why → ⊥) where
  -- where each step is done and no call is refused, none may be
  none_refused : (set : Unit {0}) → MayRefuse may_end may_refuse set → ⊥
  none_refused set may =
      elim may.2 [
        | inl refused ↦ none set may.0 may.1 refused
        | inr ended ↦ never_done may.1
            (only_done set may.0 (end_by may.1) ended)
      ]

  -- so steps end by the choice alone
  pub chosen_ends : (set : CutSetting (Unit {0})) (n : ℕ) (end : StepEnd)
      → CutMayEnd may_end may_refuse set n end ↔ EndsBy set.cut set.fail n end
  chosen_ends set n end = (
    λ may. elim may [
      | inl chosen ↦ chosen
      | inr inside ↦ absurd
          (none_refused set.inner inside.0)
    ],
    λ chosen. inl chosen,
  )

  -- a torn step leaves the flash of the tear number alone
  pub chosen_tears : (set : CutSetting (Unit {0})) (n : ℕ) (flash : List ℕ) (step : Step)
      (left : List ℕ) → CutMayTear may_end may_refuse set n flash step left
      ↔ (left ≡ torn_by flash step set.tear)
  chosen_tears set n flash step left = (
    λ may. elim may [ inl is ↦ is | inr inside ↦ absurd (none_refused set.inner inside) ],
    λ is. inl is,
  )

  -- and calls are refused by the choice alone
  pub chosen_refuses : (set : CutSetting (Unit {0})) (n : ℕ) (why : NorFault)
      → CutMayRefuse may_end may_refuse set n why ↔ EndsBy set.cut set.fail n (end_by why)
  chosen_refuses set n why = (
    λ may. elim may [
      | inl chosen ↦ chosen
      | inr inside ↦ absurd
          (none_refused set.inner inside)
    ],
    λ chosen. inl chosen,
  )

-- a number that is still to come is not this one
ahead_other : (chosen : Option ℕ) (n : ℕ) → IsAhead chosen n → chosen ≡ Some n → ⊥
ahead_other None n ahead is = cc is
ahead_other (Some k) n ahead is = let same : k ≡ n = cc is in absurd (omega arith)

-- nor an earlier one
ahead_later : (chosen : Option ℕ) (n later : ℕ) → n < later → IsAhead chosen later
    → chosen ≡ Some n → ⊥
ahead_later None n later less ahead is = cc is
ahead_later (Some k) n later less ahead is = let same : k ≡ n = cc is in absurd (omega arith)

-- the two are not chosen both
not_two : (cut fail : Option ℕ) (n m : ℕ) → NotBoth cut fail → cut ≡ Some n → fail ≡ Some m → ⊥
not_two cut fail n m (inl none) is_cut is_fail = cc (none, is_cut)
not_two cut fail n m (inr none) is_cut is_fail = cc (none, is_fail)

-- one number is not two
not_later : (chosen : Option ℕ) (n later : ℕ) → n < later → chosen ≡ Some n → chosen ≡ Some later
    → ⊥
not_later chosen n later less first second = let same : n ≡ later =
    cc (first, second) in absurd (omega arith)

-- no step number has two ends
pub one_end : (cut fail : Option ℕ) (n : ℕ) (end other : StepEnd) → NotBoth cut fail
    → EndsBy cut fail n end → EndsBy cut fail n other → end ≡ other
one_end cut fail n ends.Done ends.Done one a b = refl
one_end cut fail n ends.Done ends.Cut one a b = absurd (ahead_other cut n a.0 b)
one_end cut fail n ends.Done ends.Failed one a b = absurd (ahead_other fail n a.1 b)
one_end cut fail n ends.Cut ends.Done one a b = absurd (ahead_other cut n b.0 a)
one_end cut fail n ends.Cut ends.Cut one a b = refl
one_end cut fail n ends.Cut ends.Failed one a b = absurd (not_two cut fail n n one a b)
one_end cut fail n ends.Failed ends.Done one a b = absurd (ahead_other fail n b.1 a)
one_end cut fail n ends.Failed ends.Cut one a b = absurd (not_two cut fail n n one b a)
one_end cut fail n ends.Failed ends.Failed one a b = refl

-- none after the chosen one has any
pub no_end_after : (cut fail : Option ℕ) (n later : ℕ) (end : StepEnd) → NotBoth cut fail
    → IsBad cut fail n → n < later → EndsBy cut fail later end → ⊥
no_end_after cut fail n later ends.Done one (inl is) less stands =
    ahead_later cut n later less stands.0 is
no_end_after cut fail n later ends.Done one (inr is) less stands =
    ahead_later fail n later less stands.1 is
no_end_after cut fail n later ends.Cut one (inl is) less stands =
    not_later cut n later less is stands
no_end_after cut fail n later ends.Cut one (inr is) less stands =
    not_two cut fail later n one stands is
no_end_after cut fail n later ends.Failed one (inl is) less stands =
    not_two cut fail n later one is stands
no_end_after cut fail n later ends.Failed one (inr is) less stands =
    not_later fail n later less is stands
