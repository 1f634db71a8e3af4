-- What a loss of power leaves.
use Rattle.std.specs.Prelude.{◌≡◌, ◌⊎◌, ◌↔◌, List, [], ◌∷◌, ◌++◌, ℕ, Option, Some, None, IfSome}
use Rattle.nor_device.specs.declared.step.Step.{Step}
use Rattle.nor_device.specs.Flash.{after_steps}
use Rattle.nor_device.specs.Torn.{Torn}

-- now: the bytes where no step runs, and every flash that is torn by the step that runs
abbrev pub LeavesNow : List ℕ → Option Step → List ℕ → Type 0
LeavesNow flash None left = left ≡ flash
LeavesNow flash (Some step) left = Torn flash step left

-- the same of a device that may not tell its bytes
abbrev pub MayLeave : Option (List ℕ) → Option Step → List ℕ → Type 0
MayLeave None running left = Unit {0}
MayLeave (Some flash) running left = LeavesNow flash running left

-- torn by the first of these steps
abbrev pub TornByFirst : List ℕ → List Step → List ℕ → Type 0
TornByFirst flash [] left = ⊥
TornByFirst flash (step ∷ steps) left = Torn flash step left

-- at some moment of a list of steps: after some of them, or within the next
pub record LeftAfter (flash : List ℕ) (steps : List Step) (left : List ℕ) : Type 0 where
  pub made : List Step
  pub rest : List Step
  pub split : steps ≡ made ++ rest
  pub stands : (left ≡ after_steps flash made) ⊎ TornByFirst (after_steps flash made) rest left

-- where the device tells its bytes, they are those after all of the steps
abbrev pub IsAfterAll : List Step → Option (List ℕ) → Option (List ℕ) → Type 0
IsAfterAll steps old new = IfSome old (λ flash. new ≡ Some (after_steps flash steps))

-- where the device tells its bytes, it still tells them, and a loss of power may leave them at some moment of the steps
abbrev pub IsLeftOf : List Step → Option (List ℕ) → Option (List ℕ) → Type 0
IsLeftOf steps old new =
    IfSome old (λ flash. (left : List ℕ) × (new ≡ Some left) × LeftAfter flash steps left)

-- where no step runs, a loss of power leaves the bytes
pub idle_leaves : (told : Option (List ℕ)) (running : Option Step) (flash left : List ℕ)
    → running ≡ None → told ≡ Some flash → MayLeave told running left ↔ (left ≡ flash)
idle_leaves told running flash left idle is = rw (is, idle) (record { 0 = λ h. h; 1 = λ h. h })

-- where one runs, every flash that is torn by it
pub running_leaves : (told : Option (List ℕ)) (running : Option Step) (step : Step)
    (flash left : List ℕ) → running ≡ Some step → told ≡ Some flash → MayLeave told running left
    ↔ Torn flash step left
running_leaves told running step flash left runs is =
    rw (is, runs) (record { 0 = λ h. h; 1 = λ h. h })
