-- In which quiet periods a call is made, and how many steps each has.
use Rattle.std.specs.Prelude.{◌≡◌, ℕ, zero, suc, ◌+◌, ◌/◌, ◌%◌, ◌≤◌, List, [], ◌∷◌, ◌++◌, length, replicate, Result, Ok, Err, ◌⊎◌}
use Rattle.duo_machine.specs.declared.events.Kind.{Kind}
use Rattle.duo_machine.specs.declared.events.Kind.TheVariants as kinds
use Rattle.flash_steps.specs.Steps.{erase_steps, write_steps}
use Rattle.cache_gate.specs.Own.{Own, HasShown}

-- so many steps, one after the other
abbrev pub steps_shown : ℕ → List Kind
steps_shown zero = []
steps_shown (suc n) = kinds.Begin ∷ kinds.Done ∷ steps_shown n

-- a quiet period with so many steps: the lock is taken, the steps are made, the lock is given back
abbrev pub period_shown : ℕ → List Kind
period_shown n = kinds.Take ∷ (steps_shown n ++ kinds.Give ∷ [])

-- quiet periods, one after the other
abbrev pub periods_shown : List ℕ → List Kind
periods_shown [] = []
periods_shown (n ∷ periods) = period_shown n ++ periods_shown periods

-- so many, if any
abbrev pub if_some : ℕ → List ℕ
if_some zero = []
if_some (suc n) = suc n ∷ []

-- so many steps by sixteens, and the rest in a last period
abbrev pub by_sixteens : ℕ → List ℕ
by_sixteens n = replicate (n / 16) 16 ++ if_some (n % 16)

-- a write: its programs by sixteens
unfoldable pub write_periods : ℕ → List ℕ → List ℕ
write_periods at bytes = by_sixteens (length (write_steps at bytes))

-- an erase of so many bytes from an address on: each of its steps
unfoldable pub erase_periods : ℕ → ℕ → List ℕ
erase_periods at len = replicate (length (erase_steps at len)) 1

-- a read of so many bytes: no step, for each 4096 of them and for the rest
unfoldable pub read_periods : ℕ → List ℕ
read_periods len = replicate ((len + 4095) / 4096) 0

-- a first part of the periods was made, of the last of which fewer steps may have been begun
abbrev pub BreaksOffWithin : List ℕ → List ℕ → Type 0
BreaksOffWithin [] made = ⊥
BreaksOffWithin (n ∷ periods) [] = ⊥
BreaksOffWithin (n ∷ periods) (m ∷ made) =
    ((m ≤ n) × (made ≡ [])) ⊎ ((m ≡ n) × BreaksOffWithin periods made)

-- which periods were made, by the answer: all; or a first part, where it was refused
abbrev pub AreMade : {E : Type 0} → List ℕ → Result (Unit {0}) E → List ℕ → Type 0
AreMade periods (Ok _) made = made ≡ periods
AreMade periods (Err why) made = BreaksOffWithin periods made

-- exactly these quiet periods show of what the core did, or a first part of them by the answer: in each the
-- lock was taken once and given back once, with so many steps between
pub record HasPeriods {B D E : Type 0} (periods : List ℕ) (r : Result (Unit {0}) E) (o o' : Own B D)
    : Type 0 where
  pub made : List ℕ
  pub by_answer : AreMade periods r made
  pub shows : HasShown (periods_shown made) o o'

-- no more than so many steps show
pub record HasFewSteps {B D : Type 0} (most : ℕ) (o o' : Own B D) : Type 0 where
  pub many : ℕ
  pub within : many ≤ most
  pub shows : HasShown (steps_shown many) o o'

-- so many steps show, by the answer: all, or no more than these
abbrev pub HasShownSteps : {B D E : Type 0} → ℕ → Result (Unit {0}) E → Own B D → Own B D → Type 0
HasShownSteps n (Ok _) o o' = HasShown (steps_shown n) o o'
HasShownSteps n (Err why) o o' = HasFewSteps n o o'

-- one quiet period with no more than so many steps shows
pub record HasFewInPeriod {B D : Type 0} (most : ℕ) (o o' : Own B D) : Type 0 where
  pub many : ℕ
  pub within : many ≤ most
  pub shows : HasShown (period_shown many) o o'

-- one quiet period with so many steps shows, by the answer
abbrev pub HasPeriod : {B D E : Type 0} → ℕ → Result (Unit {0}) E → Own B D → Own B D → Type 0
HasPeriod n (Ok _) o o' = HasShown (period_shown n) o o'
HasPeriod n (Err why) o o' = HasFewInPeriod n o o'
