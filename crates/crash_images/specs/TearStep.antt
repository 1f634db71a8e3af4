-- What making a torn step on a device says: what it asks, what it leaves, and what it keeps.
use Rattle.std.specs.Prelude.{◌≡◌, ◌⊎◌, ℕ, ◌≤◌, ◌^◌, Bool, List, Option, Some, None, IfSome, Result, OnErr}
use Rattle.nor_device.specs.declared.step.Step.{Step}
use Rattle.nor_device.specs.declared.nor.StepEnd.{StepEnd}
use Rattle.nor_device.specs.declared.nor.NorFault.{NorFault}
use Rattle.nor_device.specs.Flash.{end_of, IsInOnePage}
use Rattle.nor_device.specs.Nor.{end_by, HasCause, KeepsSetting}
use Rattle.crash_images.specs.Tear.{torn_by, masked}

-- the step may be started: no step runs, it keeps to a page, and its range lies inside
pub record MayStart {D : Type 0} (running : D → Option Step) (size : D → ℕ) (device : D)
    (step : Step) : Type 0 where
  pub idle : running device ≡ None
  pub paged : IsInOnePage step
  pub small : end_of step ≤ 2 ^ 32
  pub inside : end_of step ≤ size device

-- a device of this setting may refuse a call
abbrev pub MayRefuse : {S : Type 0} → (S → ℕ → StepEnd → Type 0) → (S → ℕ → NorFault → Type 0) → S
    → Type 0
MayRefuse may_end may_refuse setting =
    (n : ℕ) × (why : NorFault) × (may_refuse setting n why ⊎ may_end setting n (end_by why))

-- tearing a step leaves the flash that the tear number names, or any torn one where the device may refuse a call
abbrev pub TearLeaves : {S : Type 0} → (S → ℕ → StepEnd → Type 0) → (S → ℕ → NorFault → Type 0) → S
    → ℕ → List ℕ → Step → List ℕ → Type 0
TearLeaves may_end may_refuse setting tear flash step left =
    (left ≡ torn_by flash step tear) ⊎ MayRefuse may_end may_refuse setting

-- where the device tells its bytes, they are those that the tear number names
abbrev pub IsTornByNumber : Step → ℕ → Option (List ℕ) → Option (List ℕ) → Type 0
IsTornByNumber step tear old new = IfSome old (λ flash. new ≡ Some (torn_by flash step tear))

-- where the device tells its bytes, as many from the address on have the bits of their masks set, from the i-th on
abbrev pub IsMaskedBy : ℕ → ℕ → ℕ → ℕ → Option (List ℕ) → Option (List ℕ) → Type 0
IsMaskedBy at len tear i old new = IfSome old (λ flash. new ≡ Some (masked flash at len tear i))

-- what each call that tears a step keeps: no step runs after it, size and setting stay, and a refusal has its cause
-- and is one that the setting allows
pub record LeavesIdle {D S T : Type 0} (running : D → Option Step) (size : D → ℕ) (off : D → Bool)
    (faults : D → ℕ) (setting : D → S) (may_end : S → ℕ → StepEnd → Type 0)
    (may_refuse : S → ℕ → NorFault → Type 0) (old new : D)
    (result : Result T NorFault) : Type 0 where
  pub idle : running new ≡ None
  pub allowed : OnErr result (MayRefuse may_end may_refuse (setting old))
  pub setting_kept : KeepsSetting size setting old new
  pub cause : HasCause (faults old) (faults new) (off new) result
