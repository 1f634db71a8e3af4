-- What making a list of steps on a device says: all were made whole, or the first ones were, and
-- then one was not begun or was broken off.
use Rattle.std.specs.Prelude.{◌≡◌, ◌⊎◌, ℕ, List, [], ◌∷◌, ◌++◌, Option, Some, IfSome, Result, MatchResult}
use Rattle.nor_device.specs.declared.step.Step.{Step}
use Rattle.nor_device.specs.declared.nor.StepEnd.{StepEnd}
use Rattle.nor_device.specs.declared.nor.StepEnd.TheVariants as ends
use Rattle.nor_device.specs.declared.nor.NorFault.{NorFault}
use Rattle.nor_device.specs.Flash.{after_steps}
use Rattle.nor_device.specs.Torn.{Torn}
use Rattle.nor_device.specs.Nor.{one_more, end_by}
use Rattle.crash_images.specs.Crash.{IsAfterAll}

-- the number of steps once these were begun
abbrev pub count_after : ℕ → List Step → ℕ
count_after count [] = count
count_after count (step ∷ steps) = count_after (one_more count) steps

module _ {S : Type 0} (may_end : S → ℕ → StepEnd → Type 0)
    (may_tear : S → ℕ → List ℕ → Step → List ℕ → Type 0)
    (may_refuse : S → ℕ → NorFault → Type 0) (must_refuse : S → ℕ → Type 0) where
  -- the step after so many was begun and ended whole, and the setting allows both
  pub record IsDone (setting : S) (count : ℕ) : Type 0 where
    pub begun : ¬ must_refuse setting count
    pub ended : may_end setting (one_more count) ends.Done

  -- so was each of these steps, one after the other
  abbrev pub EachDone : S → ℕ → List Step → Type 0
  EachDone setting count [] = Unit {0}
  EachDone setting count (step ∷ steps) =
      IsDone setting count × EachDone setting (one_more count) steps

  -- all of the steps were made whole: the number of steps rose by theirs, and the bytes are those
  -- after them
  pub record AreMade (setting : S) (steps : List Step) (count now : ℕ)
      (old new : Option (List ℕ)) : Type 0 where
    pub each : EachDone setting count steps
    pub counted : now ≡ count_after count steps
    pub bytes : IsAfterAll steps old new

  -- after these steps a call was refused that is no step
  pub record IsRefusedAfter (setting : S) (made : List Step) (count now : ℕ)
      (old new : Option (List ℕ)) (why : NorFault) : Type 0 where
    pub counted : now ≡ count_after count made
    pub allowed : may_refuse setting now why
    pub bytes : IsAfterAll made old new

  -- after these steps one more was begun, which has the next number, and it was broken off: it may
  -- end so, and has left a torn flash that it may leave
  pub record IsBrokenAfter (setting : S) (made : List Step) (step : Step) (count now : ℕ)
      (old new : Option (List ℕ)) (why : NorFault) : Type 0 where
    pub begun : ¬ must_refuse setting (count_after count made)
    pub counted : now ≡ one_more (count_after count made)
    pub ended : may_end setting now (end_by why)
    pub left : IfSome old (λ flash. (left : List ℕ) × (new ≡ Some left)
        × Torn (after_steps flash made) step left
        × may_tear setting now (after_steps flash made) step left)

  -- the first of the steps that are left was not begun, or was broken off; where none is left, a
  -- later call was refused
  abbrev pub StopsAt : S → List Step → List Step → ℕ → ℕ → Option (List ℕ) → Option (List ℕ)
      → NorFault → Type 0
  StopsAt setting made [] count now old new why =
      IsRefusedAfter setting made count now old new why
  StopsAt setting made (step ∷ rest) count now old new why =
      IsRefusedAfter setting made count now old new why
      ⊎ IsBrokenAfter setting made step count now old new why

  -- the first ones of the steps were made whole, and then a call was refused or a step broken off
  pub record AreMissed (setting : S) (steps : List Step) (count now : ℕ)
      (old new : Option (List ℕ)) (why : NorFault) : Type 0 where
    pub made : List Step
    pub rest : List Step
    pub split : steps ≡ made ++ rest
    pub each : EachDone setting count made
    pub stops : StopsAt setting made rest count now old new why

  -- all of the steps were made, or the answer says why they were missed
  abbrev pub AreMadeBy : {T : Type 0} → S → List Step → ℕ → ℕ → Option (List ℕ) → Option (List ℕ)
      → Result T NorFault → Type 0
  AreMadeBy setting steps count now old new answer =
      MatchResult answer (λ _. AreMade setting steps count now old new)
      (AreMissed setting steps count now old new)
