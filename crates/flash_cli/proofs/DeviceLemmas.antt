-- On a device that makes each step whole and refuses no call, no list of steps is missed.
use Rattle.std.proofs.Common.{◌≡◌, inl, inr, ℕ, List, [], ◌∷◌, Option}
use Rattle.nor_device.specs.declared.step.Step.{Step}
use Rattle.nor_device.specs.declared.nor.StepEnd.{StepEnd}
use Rattle.nor_device.specs.declared.nor.StepEnd.TheVariants as ends
use Rattle.nor_device.specs.declared.nor.NorFault.{NorFault}
use Rattle.nor_device.specs.declared.nor.NorFault.TheVariants as faults
use Rattle.nor_device.specs.Nor.{end_by}
use Rattle.boot_run.specs.Made.{AreMissed, StopsAt}
use Rattle.update_run.specs.Device.{IsSure}

-- no step is refused so that it is done
never_done : (why : NorFault) → end_by why ≡ ends.Done → ⊥
never_done faults.Failed is = cc is
never_done faults.Off is = cc is

module _ {S : Type 0} (may_end : S → ℕ → StepEnd → Type 0)
    (may_tear : S → ℕ → List ℕ → Step → List ℕ → Type 0)
    (may_refuse : S → ℕ → NorFault → Type 0) (must_refuse : S → ℕ → Type 0) where
  -- a list of steps does not stop
  never_stops : (setting : S) (made rest : List Step) (count now : ℕ) (old new : Option (List ℕ))
      (why : NorFault) → IsSure may_end may_refuse setting
      → StopsAt may_end may_tear may_refuse must_refuse setting made rest count now old new why → ⊥
  never_stops setting made [] count now old new why sure stops = sure.answers now why stops.allowed
  never_stops setting made (step ∷ rest) count now old new why sure (inl stops) =
      sure.answers now why stops.allowed
  never_stops setting made (step ∷ rest) count now old new why sure (inr stops) =
      never_done why (sure.whole now (end_by why) stops.ended)

  -- so it is not missed
  pub never_missed : (setting : S) (steps : List Step) (count now : ℕ) (old new : Option (List ℕ))
      (why : NorFault) → IsSure may_end may_refuse setting
      → AreMissed may_end may_tear may_refuse must_refuse setting steps count now old new why → ⊥
  never_missed setting steps count now old new why sure missed =
      never_stops setting missed.made missed.rest count now old new why sure missed.stops
