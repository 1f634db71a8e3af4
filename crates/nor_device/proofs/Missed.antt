-- What a step that was not made leaves, and what the setting allowed for it.
use Rattle.std.specs.Prelude.{◌⊎◌, ℕ, List, Option, Some, None, Result, Ok, Err, IfErr, OnErr}
use Rattle.std.proofs.Common.{inl, inr}
use Rattle.nor_device.specs.declared.step.Step.{Step}
use Rattle.nor_device.specs.declared.nor.StepEnd.{StepEnd}
use Rattle.nor_device.specs.declared.nor.NorFault.{NorFault}
use Rattle.nor_device.specs.Nor.{one_more, end_by, IsLeftTorn}
use Rattle.nor_device.specs.Make.{IsTornBy, IsMissed}
use Rattle.nor_device.proofs.TornLaws.{torn_untouched}

-- a step that was broken off has left its bytes torn
pub broken_torn : (allowed : List ℕ → Step → List ℕ → Type 0) (step : Step)
    (old new : Option (List ℕ)) → IsLeftTorn allowed (Some step) old new → IsTornBy step old new
broken_torn allowed step None new left = tt
broken_torn allowed step (Some flash) new left = (left.0, left.1, left.2)

module _ {S : Type 0} (may_end : S → ℕ → StepEnd → Type 0)
    (may_tear : S → ℕ → List ℕ → Step → List ℕ → Type 0)
    (may_refuse : S → ℕ → NorFault → Type 0) (must_refuse : S → ℕ → Type 0) (setting : S)
    (step : Step) (count now : ℕ) (old new : Option (List ℕ)) (why : NorFault) where
  -- a step that was not made has left its bytes torn
  pub missed_torn : IsMissed may_end may_tear may_refuse must_refuse setting step count now old new
      why → IsTornBy step old new
  missed_torn (inl not_begun) = torn_untouched step old new not_begun.bytes_same
  missed_torn (inr broken) = broken_torn (may_tear setting (one_more count)) step old new broken.left

  -- the setting allows that the step is refused so, at its start or in a poll
  pub missed_allowed : IsMissed may_end may_tear may_refuse must_refuse setting step count now old
      new why → may_refuse setting count why ⊎ may_end setting (one_more count) (end_by why)
  missed_allowed (inl not_begun) = inl not_begun.allowed
  missed_allowed (inr broken) = inr broken.ended

-- an answer that may say that a step was not made leaves its bytes torn where it is an error
pub on_missed_torn : {S T : Type 0} (may_end : S → ℕ → StepEnd → Type 0)
    (may_tear : S → ℕ → List ℕ → Step → List ℕ → Type 0)
    (may_refuse : S → ℕ → NorFault → Type 0) (must_refuse : S → ℕ → Type 0) (setting : S)
    (step : Step) (count now : ℕ) (old new : Option (List ℕ)) (r : Result T NorFault)
    → IfErr r (IsMissed may_end may_tear may_refuse must_refuse setting step count now old new)
    → OnErr r (IsTornBy step old new)
on_missed_torn may_end may_tear may_refuse must_refuse setting step count now old new
    (Ok x) missed = missed
on_missed_torn may_end may_tear may_refuse must_refuse setting step count now old new
    (Err why) missed =
    missed_torn may_end may_tear may_refuse must_refuse setting step count now old new why missed
