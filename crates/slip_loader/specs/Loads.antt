-- What a stream makes: its answers, its steps, and the state that it leaves.
use Rattle.std.specs.Prelude.{◌≡◌, ◌⊎◌, ℕ, ◌≤◌, Bool, IsTrue, List, [], ◌∷◌, ◌++◌, Option, None, Result, IsErrOf}
use Rattle.nor_device.specs.declared.step.Step.{Step}
use Rattle.nor_device.specs.declared.nor.StepEnd.{StepEnd}
use Rattle.nor_device.specs.declared.nor.NorFault.{NorFault}
use Rattle.nor_device.specs.declared.nor.NorFault.TheVariants as faults
use Rattle.nor_device.specs.Flash.{after_steps}
use Rattle.nor_device.specs.Nor.{Rose, end_by, one_more}
use Rattle.partition_table.specs.declared.row.Row.{Row}
use Rattle.slip_loader.specs.declared.fault.LoadNo.{LoadNo}
use Rattle.slip_loader.specs.declared.fault.LoadNo.TheVariants as ends
use Rattle.slip_loader.specs.declared.plan.Begun.{Begun}
use Rattle.slip_loader.specs.Frames.{Behind, before, behind_after, requests_from}
use Rattle.slip_loader.specs.Plans.{begun_by, command_of, plan_of, plan_steps}
use Rattle.slip_loader.specs.Answers.{plan_answer}

-- what a loader holds: the size of the flash and the table, which no request changes; what is open;
-- what stands behind the last C0
pub record State : Type 0 where
  pub size : ℕ
  pub table : Option (List Row)
  pub begun : Option Begun
  pub behind : Behind

-- a loader as it begins
abbrev pub first_state : ℕ → Option (List Row) → State
first_state size table = record { size = size; table = table; begun = None; behind = before }

-- what is open behind requests
unfoldable pub begun_after : ℕ → Option (List Row) → Option Begun → List (List ℕ) → Option Begun
begun_after size table begun [] = begun
begun_after size table begun (frame ∷ frames) =
    begun_after size table (begun_by (plan_of size table begun frame) begun) frames

-- the steps of requests
unfoldable pub request_steps : ℕ → Option (List Row) → Option Begun → List (List ℕ) → List Step
request_steps size table begun [] = []
request_steps size table begun (frame ∷ frames) =
    plan_steps (plan_of size table begun frame) frame
    ++ request_steps size table (begun_by (plan_of size table begun frame) begun) frames

-- the answers to requests in this flash, each in what the steps of those before it made of it
unfoldable pub request_answers : ℕ → Option (List Row) → Option Begun → List ℕ → List (List ℕ)
    → List (List ℕ)
request_answers size table begun flash [] = []
request_answers size table begun flash (frame ∷ frames) =
    plan_answer flash (plan_of size table begun frame) (command_of frame)
    ∷ request_answers size table (begun_by (plan_of size table begun frame) begun)
    (after_steps flash (plan_steps (plan_of size table begun frame) frame)) frames

-- the state that bytes of a stream leave
unfoldable pub state_after : State → List ℕ → State
state_after state bytes = record state {
  begun = begun_after state.size state.table state.begun (requests_from state.behind bytes);
  behind = behind_after state.behind bytes;
}

-- their steps
unfoldable pub load_steps : State → List ℕ → List Step
load_steps state bytes =
    request_steps state.size state.table state.begun (requests_from state.behind bytes)

-- their answers
unfoldable pub load_answers : State → List ℕ → List ℕ → List (List ℕ)
load_answers state flash bytes =
    request_answers state.size state.table state.begun flash (requests_from state.behind bytes)

-- ---- a stream that comes in pieces, one after the other

-- the state that they leave
unfoldable pub pieces_state : State → List (List ℕ) → State
pieces_state state [] = state
pieces_state state (piece ∷ pieces) = pieces_state (state_after state piece) pieces

-- their steps
unfoldable pub pieces_steps : State → List (List ℕ) → List Step
pieces_steps state [] = []
pieces_steps state (piece ∷ pieces) =
    load_steps state piece ++ pieces_steps (state_after state piece) pieces

-- their answers
unfoldable pub pieces_answers : State → List ℕ → List (List ℕ) → List (List ℕ)
pieces_answers state flash [] = []
pieces_answers state flash (piece ∷ pieces) =
    load_answers state flash piece
    ++ pieces_answers (state_after state piece) (after_steps flash (load_steps state piece)) pieces

-- ---- faults

-- the number of steps once these were begun
abbrev pub count_after : ℕ → List Step → ℕ
count_after count [] = count
count_after count (step ∷ steps) = count_after (one_more count) steps

-- how a device of this setting may refuse: after the step of some number, or in it
abbrev pub MayRefuse : {S : Type 0} → (S → ℕ → StepEnd → Type 0) → (S → ℕ → NorFault → Type 0) → S
    → NorFault → Type 0
MayRefuse may_end may_refuse setting why =
    (n : ℕ) × (may_refuse setting n why ⊎ may_end setting n (end_by why))

-- how a call of the loader ends where the device refuses so
abbrev pub fault_by : NorFault → LoadNo
fault_by faults.Failed = ends.Device
fault_by faults.Off = ends.Cut

-- so may one whose refusal is shown by this answer
abbrev pub MayAnswer : {S : Type 0} → (S → ℕ → StepEnd → Type 0) → (S → ℕ → NorFault → Type 0) → S
    → LoadNo → Type 0
MayAnswer may_end may_refuse setting why =
    (fault : NorFault) × (why ≡ fault_by fault) × MayRefuse may_end may_refuse setting fault

-- why work was refused: a failure only where the count of faults rose, and off only where the power is
-- off
pub record ComesOf {T : Type 0} (was now : ℕ) (off : Bool) (result : Result T NorFault) : Type 0 where
  pub later : was ≤ now
  pub failed : IsErrOf result faults.Failed → Rose was now
  pub cut : IsErrOf result faults.Off → IsTrue off

-- the same of an answer of the loader
pub record LoadComesOf {T : Type 0} (was now : ℕ) (off : Bool) (result : Result T LoadNo) : Type 0 where
  pub later : was ≤ now
  pub failed : IsErrOf result ends.Device → Rose was now
  pub cut : IsErrOf result ends.Cut → IsTrue off
