-- The answers of the calls.
use Rattle.std.specs.Prelude.{◌≡◌, ℕ, zero, suc, ◌+◌, ◌-◌, ◌^◌, ◌≤◌, ◌<◌, min, List, Option, Result, Ok, Err}
use Rattle.nor_device.specs.declared.step.Step.{Step}
use Rattle.nor_device.specs.declared.nor.NorFault.{NorFault}
use Rattle.nor_device.specs.declared.nor.NorFault.TheVariants.{Failed, Off}
use Rattle.bus_hub.specs.declared.did.Did.{Did}
use Rattle.cache_gate.specs.Own.{Own}
use Rattle.flash_ops.specs.declared.pace.Point.{Point}
use Rattle.flash_ops.specs.declared.pace.Point.TheVariants.{DriverOp, DriverOpDone}
use Rattle.flash_ops.specs.declared.refusal.StepNo.{StepNo}
use Rattle.flash_ops.specs.declared.refusal.StepNo.TheVariants.{Device, Cut}
use Rattle.flash_ops.specs.declared.refusal.OpNo.{OpNo}
use Rattle.flash_ops.specs.declared.refusal.OpNo.TheVariants as ops
use Rattle.flash_ops.specs.Moves.{HasRun, makes, looks}

-- an answer, as the device gave it
abbrev pub fault_of : Result (Unit {0}) StepNo → Result (Unit {0}) NorFault
fault_of (Ok _) = Ok tt
fault_of (Err Device) = Err Failed
fault_of (Err Cut) = Err Off

-- a look behind moves that were made; where they were refused, nothing more
abbrev pub LooksBehind : {B : Type 0} → ℕ → Option ℕ → Result (Unit {0}) NorFault
    → Result (Unit {0}) NorFault → Own B Did → Own B Did → Type 0
LooksBehind k probe (Ok _) r o o' = HasRun k (looks probe) r o o'
LooksBehind k probe (Err why) r o o' = (r ≡ Err why) × (o' ≡ o)

-- an answer where no rule was against it
abbrev pub unbarred : Result (Unit {0}) StepNo → Result (Unit {0}) OpNo
unbarred (Ok _) = Ok tt
unbarred (Err Device) = Err ops.Device
unbarred (Err Cut) = Err ops.Cut

-- a write or an erase of a partition that nothing bars: the steps were made, or a first part of them
-- by the answer
abbrev pub HasChanged : {B : Type 0} → ℕ → List Step → Result (Unit {0}) OpNo → Own B Did
    → Own B Did → Type 0
HasChanged k steps (Ok _) o o' = HasRun k (makes steps) (Ok tt) o o'
HasChanged k steps (Err (ops.Barred why)) o o' = ⊥
HasChanged k steps (Err ops.Device) o o' = HasRun k (makes steps) (Err Failed) o o'
HasChanged k steps (Err ops.Cut) o o' = HasRun k (makes steps) (Err Off) o o'

-- a count after so many more, which stands still at the end of its type
abbrev pub count_behind : ℕ → ℕ → ℕ
count_behind count zero = count
count_behind count (suc n) = min (count_behind count n + 1) (2 ^ 32 - 1)

-- a count that rose by at most so many
pub record IsCountedUpTo (most before now : ℕ) : Type 0 where
  pub many : ℕ
  pub within : many ≤ most
  pub is : now ≡ count_behind before many

-- the quiet periods that were counted, by the answer: so many, or at most so many
abbrev pub CountsPeriods : ℕ → Result (Unit {0}) StepNo → ℕ → ℕ → Type 0
CountsPeriods n (Ok _) before now = now ≡ count_behind before n
CountsPeriods n (Err why) before now = IsCountedUpTo n before now

-- of each quiet period that was counted from one count to another, the pace was told of the begin and
-- of the end
abbrev pub ToldOf : (Point → Type 0) → ℕ → ℕ → Type 0
ToldOf told before now =
    (n : ℕ) → before < n → n ≤ now → told (DriverOp n) × told (DriverOpDone n)
