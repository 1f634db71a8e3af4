-- What stays of a flash in which only some addresses may have changed.
use Rattle.std.specs.Prelude.{◌≡◌, ◌⊎◌, ℕ, ◌+◌, ◌<◌, ◌≤◌, List, [], ◌∷◌, length, slice_index, Option, Some, IfSome}
use Rattle.nor_device.specs.declared.step.Step.{Step}
use Rattle.nor_device.specs.Flash.{start_of, end_of}

-- the same length, and the same bytes at the addresses that stay
pub record Agrees (Stays : ℕ → Type 0) (old new : List ℕ) : Type 0 where
  pub same_length : length new ≡ length old
  pub byte : (i : ℕ) → i < length old → Stays i → slice_index new i ≡ slice_index old i

-- the address lies outside the range
abbrev pub IsBeside : ℕ → ℕ → ℕ → Type 0
IsBeside start end i = (i < start) ⊎ (end ≤ i)

-- each of these many addresses stays
abbrev pub Covers : (ℕ → Type 0) → ℕ → ℕ → Type 0
Covers Stays at len = (i : ℕ) → at ≤ i → i < at + len → Stays i

-- the step's range lies in the range
pub record IsWithin (start end : ℕ) (step : Step) : Type 0 where
  pub from : start ≤ start_of step
  pub to : end_of step ≤ end

-- so do those of all of the steps
abbrev pub StepsWithin : ℕ → ℕ → List Step → Type 0
StepsWithin start end [] = Unit {0}
StepsWithin start end (step ∷ steps) = IsWithin start end step × StepsWithin start end steps

-- outside the range the bytes are the same, and in it bytes are still bytes
pub record ChangesWithin (start end : ℕ) (old new : List ℕ) : Type 0 where
  pub same : Agrees (IsBeside start end) old new
  pub small : (i : ℕ) → i < length old → slice_index old i < 256 → slice_index new i < 256

-- where the device tells its bytes, it still tells them, and only the range has changed
abbrev pub StaysOutside : ℕ → ℕ → Option (List ℕ) → Option (List ℕ) → Type 0
StaysOutside start end old new =
    IfSome old (λ flash. (left : List ℕ) × (new ≡ Some left) × ChangesWithin start end flash left)
