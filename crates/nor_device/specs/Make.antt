-- What making one step whole says: how it was made, or how it was missed.
use Rattle.std.specs.Prelude.{◌≡◌, ◌⊎◌, ℕ, List, Option, Some, IfSome}
use Rattle.nor_device.specs.declared.step.Step.{Step}
use Rattle.nor_device.specs.declared.nor.StepEnd.{StepEnd}
use Rattle.nor_device.specs.declared.nor.NorFault.{NorFault}
use Rattle.nor_device.specs.Flash.{applied}
use Rattle.nor_device.specs.Torn.{Torn}
use Rattle.nor_device.specs.Nor.{one_more, end_by, IsLeftTorn}

-- where the device tells its bytes, they are those after the step
abbrev pub IsAfter : Step → Option (List ℕ) → Option (List ℕ) → Type 0
IsAfter step old new = IfSome old (λ flash. new ≡ Some (applied flash step))

-- where the device tells its bytes, it still tells them, and they are torn by the step
abbrev pub IsTornBy : Step → Option (List ℕ) → Option (List ℕ) → Type 0
IsTornBy step old new =
    IfSome old (λ flash. (left : List ℕ) × (new ≡ Some left) × Torn flash step left)

module _ {S : Type 0} (may_end : S → ℕ → StepEnd → Type 0)
    (may_tear : S → ℕ → List ℕ → Step → List ℕ → Type 0)
    (may_refuse : S → ℕ → NorFault → Type 0) (must_refuse : S → ℕ → Type 0) where
  -- the step was not begun: bytes and number are as before, and the refusal may come after the step of that number
  pub record IsNotBegun (setting : S) (count now : ℕ) (old new : Option (List ℕ))
      (why : NorFault) : Type 0 where
    pub bytes_same : new ≡ old
    pub steps_same : now ≡ count
    pub allowed : may_refuse setting count why

  -- the step was broken off: it has the next number, may end so, and has left a torn flash that it may leave
  pub record IsBrokenOff (setting : S) (step : Step) (count now : ℕ) (old new : Option (List ℕ))
      (why : NorFault) : Type 0 where
    pub begun : ¬ must_refuse setting count
    pub counted : now ≡ one_more count
    pub ended : may_end setting (one_more count) (end_by why)
    pub left : IsLeftTorn (may_tear setting (one_more count)) (Some step) old new

  -- the step was not made: not begun, or broken off
  abbrev pub IsMissed : S → Step → ℕ → ℕ → Option (List ℕ) → Option (List ℕ) → NorFault → Type 0
  IsMissed setting step count now old new why =
      IsNotBegun setting count now old new why ⊎ IsBrokenOff setting step count now old new why
