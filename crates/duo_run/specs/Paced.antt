-- What the pace of a leg is told: begin and end of each quiet period of the driver that has a step, and
-- of each action of the other core.
use Rattle.std.specs.Prelude.{◌≡◌, ℕ, ◌+◌, ◌/◌, ◌≤◌, ◌==◌, if◌then◌else◌, List, [], ◌∷◌, length, Option, Some, None, Result, Ok, Err, IfOk, OnOk}
use Rattle.partition_table.specs.Layout.{Places}
use Rattle.image_verify.specs.declared.bad.BadImage.{BadImage}
use Rattle.image_verify.specs.Bad.{bad}
use Rattle.boot_run.specs.declared.aims.Aim.{Aim}
use Rattle.flash_ops.specs.declared.pace.Point.{Point}
use Rattle.flash_ops.specs.declared.pace.Point.TheVariants.{WorkerAct, WorkerActDone}
use Rattle.flash_ops.specs.declared.refusal.StepNo.{StepNo}
use Rattle.flash_ops.specs.Told.{ToldOf, count_behind}
use Rattle.ota_session.specs.declared.refusal.WriteNo.{WriteNo}
use Rattle.ota_session.specs.declared.refusal.WriteNo.TheVariants as writes
use Rattle.ota_session.specs.Course.{Confirm, Install, Purpose}
use Rattle.ota_session.specs.SessionTold.{begin_periods}
use Rattle.power_cut.specs.declared.legs.LegEnd.{LegEnd}
use Rattle.power_cut.specs.declared.legs.Ran.{Ran}
use Rattle.power_cut.specs.Device.{IsWholeEnd}
use Rattle.power_cut.specs.Update.{slot_size}

-- ---- how many quiet periods have a step

-- of so many bytes that are written: one for each 4096 of them and for the rest
abbrev pub pieces_of : ℕ → ℕ
pieces_of len = (len + 4095) / 4096

-- of the entry, which comes only where the image shows no fault: its erase and its program
abbrev pub entry_ops : Option BadImage → ℕ
entry_ops None = 2
entry_ops (Some why) = 0

-- behind the last byte that is written
abbrev pub closed_ops : ℕ → List ℕ → ℕ
closed_ops size [] = 0
closed_ops size (byte ∷ bytes) = entry_ops (bad size (byte ∷ bytes))

-- behind the begin of a session, by the bytes of its image: none where there is no byte or the first
-- byte is not that of an image
abbrev pub image_ops : ℕ → List ℕ → ℕ
image_ops size [] = 0
image_ops size (byte ∷ bytes) =
    if byte == 0xE9
    then pieces_of (length (byte ∷ bytes)) + entry_ops (bad size (byte ∷ bytes))
    else 0

-- of a session that is driven to its end
abbrev pub session_ops : Places → Aim → List ℕ → ℕ
session_ops layout aim image = begin_periods aim + image_ops (slot_size layout aim.slot) image

-- of a job of the driver: a confirmation erases a sector and programs its entry
abbrev pub ops_for : Places → Purpose → ℕ
ops_for layout (Install aim image) = session_ops layout aim image
ops_for layout (Confirm write) = 2

-- the quiet periods that a write of all bytes counted, where it was refused: none for the first byte
-- of all
abbrev pub HasCountedNone : WriteNo → ℕ → ℕ → Type 0
HasCountedNone (writes.FirstByte byte) before now = now ≡ before
HasCountedNone writes.Device before now = Unit {0}
HasCountedNone writes.Cut before now = Unit {0}

-- ---- what the pace is told

-- of each of so many actions, from the first one on, the pace was told of the begin and of the end
abbrev pub ToldOfActs : (Point → Type 0) → ℕ → Type 0
ToldOfActs told n = (k : ℕ) → 1 ≤ k → k ≤ n → told (WorkerAct k) × told (WorkerActDone k)

-- a driver whose device refused nothing told of so many quiet periods
abbrev pub TellsOps : (Point → Type 0) → ℕ → Result LegEnd StepNo → Type 0
TellsOps told n r = IfOk r (λ end. ToldOf told 0 (count_behind 0 n))

-- the other core, whose device refused nothing, told of so many actions
abbrev pub TellsActs : (Point → Type 0) → ℕ → Result (Unit {0}) StepNo → Type 0
TellsActs told n r = OnOk r (ToldOfActs told n)

-- the pace was told of so many quiet periods of the driver and of so many actions of the other core
pub record IsTold (told : Point → Type 0) (ops acts : ℕ) : Type 0 where
  pub driver : ToldOf told 0 ops
  pub worker : ToldOfActs told acts

-- it was told so of a leg in which nothing broke off
abbrev pub IsToldLeg : (Point → Type 0) → ℕ → ℕ → Ran → Type 0
IsToldLeg told ops acts ran = IsWholeEnd ran.leg.end → IsTold told ops acts
