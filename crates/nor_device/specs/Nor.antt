-- What the calls of a device say of it.
use Rattle.std.specs.Prelude.{◌≡◌, ◌↔◌, ℕ, ◌+◌, ◌-◌, ◌^◌, ◌<◌, ◌≤◌, min, Bool, IsTrue, List, take, drop, Option, None, Some, IfSome, Result, IsErrOf}
use Rattle.nor_device.specs.declared.step.Step.{Step}
use Rattle.nor_device.specs.declared.nor.StepEnd.{StepEnd}
use Rattle.nor_device.specs.declared.nor.StepEnd.TheVariants as ends
use Rattle.nor_device.specs.declared.nor.NorFault.{NorFault}
use Rattle.nor_device.specs.declared.nor.NorFault.TheVariants.{Failed, Off}
use Rattle.nor_device.specs.Flash.{applied}
use Rattle.nor_device.specs.Torn.{Torn}

-- the count rose, or it stands at the end of its 64 bits
abbrev pub Rose : ℕ → ℕ → Type 0
Rose before now = min (before + 1) (2 ^ 64 - 1) ≤ now

-- the next number of a count that stops at the end of its 64 bits
abbrev pub one_more : ℕ → ℕ
one_more count = min (count + 1) (2 ^ 64 - 1)

-- the end of a step whose poll was refused so
abbrev pub end_by : NorFault → StepEnd
end_by Failed = ends.Failed
end_by Off = ends.Cut

-- these many bytes from the address on
abbrev pub part_of : List ℕ → ℕ → ℕ → List ℕ
part_of flash at len = take len (drop at flash)

-- where the device tells its bytes, these are as many of them from the address on
abbrev pub IsPart : Option (List ℕ) → ℕ → ℕ → List ℕ → Type 0
IsPart told at len out = IfSome told (λ flash. out ≡ part_of flash at len)

-- why the answer came: a failure only where the count of faults rose, and off exactly where the power is off
pub record HasCause {T : Type 0} (before now : ℕ) (off : Bool)
    (result : Result T NorFault) : Type 0 where
  pub later : before ≤ now
  pub failed : IsErrOf result Failed → Rose before now
  pub else_same : ¬ IsErrOf result Failed → now ≡ before
  pub off_is : IsErrOf result Off ↔ IsTrue off

-- the step was made whole, where the device tells its bytes
abbrev pub IsMadeWhole : Option Step → Option (List ℕ) → Option (List ℕ) → Type 0
IsMadeWhole running old new =
    IfSome running (λ step. IfSome old (λ flash. new ≡ Some (applied flash step)))

-- the bytes are still told: a torn flash, and one of those that are allowed
abbrev pub IsLeftTorn : (List ℕ → Step → List ℕ → Type 0) → Option Step → Option (List ℕ)
    → Option (List ℕ) → Type 0
IsLeftTorn allowed running old new = IfSome running (λ step. IfSome old (λ flash.
    (left : List ℕ) × (new ≡ Some left) × Torn flash step left × allowed flash step left))

module _ {D S : Type 0} (size : D → ℕ) (setting : D → S) where
  -- what no call changes
  pub record KeepsSetting (old new : D) : Type 0 where
    pub size_same : size new ≡ size old
    pub setting_same : setting new ≡ setting old

module _ {D S : Type 0} (size : D → ℕ) (setting : D → S) (steps : D → ℕ) where
  -- what no call but a start changes
  pub record KeepsSteps (old new : D) : Type 0 where
    pub size_same : size new ≡ size old
    pub setting_same : setting new ≡ setting old
    pub steps_same : steps new ≡ steps old

module _ {D : Type 0} (bytes : D → Option (List ℕ)) (running : D → Option Step) where
  -- the bytes are as before, and no step runs
  pub record IsIdleAsBefore (old new : D) : Type 0 where
    pub bytes_same : bytes new ≡ bytes old
    pub idle : running new ≡ None

module _ {D : Type 0} (bytes : D → Option (List ℕ)) (running : D → Option Step) (left : D → ℕ) where
  -- the step still runs and needs fewer polls, and no byte has changed
  pub record StillRuns (old new : D) : Type 0 where
    pub running_same : running new ≡ running old
    pub left_falls : left new < left old
    pub bytes_same : bytes new ≡ bytes old
