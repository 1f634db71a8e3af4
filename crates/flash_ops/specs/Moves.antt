-- What the calls on a core do, one move after the other, and what its share shows of it.
use Rattle.std.specs.Prelude.{◌≡◌, ℕ, zero, suc, ◌+◌, ◌/◌, List, [], ◌∷◌, ◌++◌, length, take, drop, Option, Some, None, Result, Ok, Err, ◌⊎◌}
use Rattle.core_state.specs.declared.registers.Regs.{Regs}
use Rattle.core_state.specs.Registers.{masked}
use Rattle.nor_device.specs.declared.step.Step.{Step}
use Rattle.nor_device.specs.declared.nor.NorFault.{NorFault}
use Rattle.flash_steps.specs.Steps.{write_steps, erase_steps}
use Rattle.bus_hub.specs.declared.did.Did.{Did}
use Rattle.bus_hub.specs.declared.did.Did.TheVariants.{Opened, Closed, Broken, Fetched, Denied, Unfetched}
use Rattle.cache_gate.specs.Own.{Own, Adds}

-- a move of a core: it makes a step in a quiet period, looks at 4 bytes through its cache, or asks
-- for bytes in a quiet period
pub data Move : Type 0 where
  Make : Step → Move
  Look : ℕ → Move
  Ask : Move

-- steps that are made one after the other
abbrev pub makes : List Step → List Move
makes [] = []
makes (step ∷ steps) = Make step ∷ makes steps

-- a look at the probe, where there is one
abbrev pub looks : Option ℕ → List Move
looks None = []
looks (Some at) = Look at ∷ []

-- each step in a quiet period of its own, and a look behind each
abbrev pub one_by_one : Option ℕ → List Step → List Move
one_by_one probe [] = []
one_by_one probe (step ∷ steps) = Make step ∷ (looks probe ++ one_by_one probe steps)

-- so many quiet periods of at most sixteen steps, and a look behind each
abbrev pub by_sixteen : ℕ → Option ℕ → List Step → List Move
by_sixteen zero probe steps = []
by_sixteen (suc n) probe steps =
    makes (take 16 steps) ++ (looks probe ++ by_sixteen n probe (drop 16 steps))

-- how many quiet periods of at most sixteen steps there are
abbrev pub periods_of : List Step → ℕ
periods_of steps = (length steps + 15) / 16

-- an erase of so many bytes from an address on: each sector in a quiet period
unfoldable pub erase_moves : Option ℕ → ℕ → ℕ → List Move
erase_moves probe at len = one_by_one probe (erase_steps at len)

-- a write of bytes from an address on: at most sixteen programs, 4096 bytes, in a quiet period
unfoldable pub write_moves : Option ℕ → ℕ → List ℕ → List Move
write_moves probe at bytes =
    by_sixteen (periods_of (write_steps at bytes)) probe (write_steps at bytes)

-- so many asks
abbrev pub asks : ℕ → List Move
asks zero = []
asks (suc n) = Ask ∷ asks n

-- a read of so many bytes: at most 4096 of them in a quiet period
unfoldable pub read_moves : ℕ → List Move
read_moves len = asks ((len + 4095) / 4096)

-- the steps among the moves
abbrev pub steps_of : List Move → List Step
steps_of [] = []
steps_of (Make step ∷ moves) = step ∷ steps_of moves
steps_of (Look at ∷ moves) = steps_of moves
steps_of (Ask ∷ moves) = steps_of moves

-- how many entries of the journal the moves need
abbrev pub entries_for : List Move → ℕ
entries_for [] = 0
entries_for (Make step ∷ moves) = 2 + entries_for moves
entries_for (Look at ∷ moves) = 1 + entries_for moves
entries_for (Ask ∷ moves) = entries_for moves

-- how many bytes of the journal they need
abbrev pub bytes_for : List Move → ℕ
bytes_for [] = 0
bytes_for (Make step ∷ moves) = bytes_for moves
bytes_for (Look at ∷ moves) = 4 + bytes_for moves
bytes_for (Ask ∷ moves) = bytes_for moves

-- all moves were made, under the number of an action, with these registers where the core looked
abbrev pub Follows : ℕ → Regs → List Move → List Did → Type 0
Follows k regs [] items = items ≡ []
Follows k regs (Make step ∷ moves) items =
    (rest : List Did) × (items ≡ Opened k masked step ∷ Closed k masked ∷ rest)
    × Follows k regs moves rest
Follows k regs (Look at ∷ moves) items =
    (bytes : List ℕ) × (rest : List Did) × (length bytes ≡ 4)
    × (items ≡ Fetched k regs at bytes ∷ rest) × Follows k regs moves rest
Follows k regs (Ask ∷ moves) items = Follows k regs moves items

-- a first part of the moves was made, and the device refused in the next one: the step was not
-- begun, or was broken off and left a flash; or it answered no bytes
abbrev pub Stops : ℕ → Regs → NorFault → List Move → List Did → Type 0
Stops k regs why [] items = ⊥
Stops k regs why (Make step ∷ moves) items =
    (items ≡ Denied why ∷ [])
    ⊎ (((left : List ℕ) × (items ≡ Opened k masked step ∷ Broken k masked why left ∷ []))
    ⊎ ((rest : List Did) × (items ≡ Opened k masked step ∷ Closed k masked ∷ rest)
    × Stops k regs why moves rest))
Stops k regs why (Look at ∷ moves) items =
    (items ≡ Unfetched at 4 why ∷ [])
    ⊎ ((bytes : List ℕ) × (rest : List Did) × (length bytes ≡ 4)
    × (items ≡ Fetched k regs at bytes ∷ rest) × Stops k regs why moves rest)
Stops k regs why (Ask ∷ moves) items =
    (items ≡ Denied why ∷ []) ⊎ Stops k regs why moves items

-- what a core did for the moves, by the answer
abbrev pub Ran : ℕ → Regs → List Move → Result (Unit {0}) NorFault → List Did → Type 0
Ran k regs moves (Ok _) items = Follows k regs moves items
Ran k regs moves (Err why) items = Stops k regs why moves items

-- the core made the moves, or a first part of them by the answer, and did nothing else
pub record HasRun {B : Type 0} (k : ℕ) (moves : List Move) (r : Result (Unit {0}) NorFault)
    (o o' : Own B Did) : Type 0 where
  pub items : List Did
  pub adds : Adds items o o'
  pub ran : Ran k o.regs moves r items
