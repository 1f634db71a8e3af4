-- Both cores of a leg: what they begin with, what each of them does, and what comes back.
use Rattle.std.specs.Prelude.{◌≡◌, ◌⊎◌, ◌^◌, ℕ, zero, suc, List, [], ◌∷◌, ◌++◌, drop, length, take, None, Result, Ok, Err}
use Rattle.core_state.specs.Registers.{reset}
use Rattle.nor_device.specs.FlashSize.{IsFlashSize}
use Rattle.nor_device.specs.Ram.{Ram}
use Rattle.crash_images.specs.declared.cut.CutSetting.{CutSetting}
use Rattle.crash_images.specs.Cut.{CutDevice, IsBad}
use Rattle.partition_table.specs.declared.row.Row.{Row}
use Rattle.partition_table.specs.Layout.{Places, layout_of}
use Rattle.partition_table.specs.Table.{table_of}
use Rattle.image_verify.specs.declared.info.SegmentNote.{SegmentNote}
use Rattle.mmu_map.specs.Map.{Map}
use Rattle.bus_hub.specs.declared.did.Base.{Base}
use Rattle.bus_hub.specs.declared.did.Did.{Did}
use Rattle.bus_hub.specs.declared.journal.Room.{Room}
use Rattle.bus_hub.specs.Hub.{Hub, Stands}
use Rattle.bus_hub.specs.Legal.{IsLegal}
use Rattle.bus_hub.specs.Log.{Item, of_core}
use Rattle.bus_hub.specs.Room.{room_in}
use Rattle.bus_hub.specs.Shares.{made}
use Rattle.cache_gate.specs.Own.{OnBase, Own}
use Rattle.core_script.specs.declared.action.Action.{Action}
use Rattle.flash_steps.specs.Parts.{open_addresses}
use Rattle.flash_ops.specs.declared.refusal.StepNo.{StepNo}
use Rattle.flash_ops.specs.Told.{fault_of}
use Rattle.update_steps.specs.Beside.{StandsBeside}
use Rattle.ota_session.specs.Course.{Course, Grants, IsFor, IsGood, Purpose, course_after, course_from, part_after, part_of, steps_for}
use Rattle.power_cut.specs.declared.legs.Leg.{Leg}
use Rattle.power_cut.specs.declared.legs.LegEnd.{LegEnd}
use Rattle.power_cut.specs.declared.legs.LegEnd.TheVariants.{Done}
use Rattle.power_cut.specs.declared.legs.Ran.{Ran}
use Rattle.power_cut.specs.Device.{IsRan, IsReady, IsUnbroken, IsWholeEnd, MayEnd, MayRefuse, MayTear, MustRefuse, told_bytes, faults_of, is_off, setting_of}
use Rattle.power_cut.specs.Leg.{IsLeg, IsSameFlash, LeavesBehind}
use Rattle.duo_run.specs.Jobs.{CanDrive, DriverShare, HasDriven, HoldsFor, driver_room, end_for, length_for}
use Rattle.duo_run.specs.Pages.{AreInPlace, application_pages, probe_in}
use Rattle.duo_run.specs.Parked.{IsParkedRun}
use Rattle.duo_run.specs.Room.{worker_room}
use Rattle.duo_run.specs.Worker.{WorkerShare}
use Rattle.duo_run.specs.Works.{CanWork, HasWorked}

-- the table of a flash, and the layout by it
pub record HasTable (rows : List Row) (layout : Places) (flash : List ℕ) : Type 0 where
  pub size : IsFlashSize (length flash)
  pub table : table_of (take 0xC00 (drop 0x8000 flash)) (length flash) ≡ Ok rows
  pub layout_is : layout_of rows ≡ Ok layout

-- a leg for this purpose may begin on this device, while an application runs that begins here in
-- the flash and has these segments, which stand in the first 16 MiB
pub record MayBegin (rows : List Row) (layout : Places) (purpose : Purpose) (offset : ℕ)
    (notes : List SegmentNote) (dev : CutDevice Ram) : Type 0 where
  pub ready : IsReady dev
  pub table : HasTable rows layout dev.inner.bytes
  pub for : IsFor layout dev.inner.bytes purpose
  pub placed : AreInPlace (length dev.inner.bytes) offset notes
  pub low : AreInPlace (2 ^ 24) offset notes

-- ---- what both cores begin with

-- the rooms of both cores, by the number of the driver: its own one, and that of the other core
abbrev pub rooms_of : ℕ → Room → Room → List Room
rooms_of zero mine theirs = mine ∷ theirs ∷ []
rooms_of (suc driver) mine theirs = theirs ∷ mine ∷ []

-- the base of a bus that was made of these parts
abbrev pub base_with : CutDevice Ram → Map → List Room → Course
    → Base (CutSetting (Unit {0})) Course
base_with dev map rooms duty = record {
  flash = dev.inner.bytes;
  map = map;
  duty = duty;
  left_room = room_in rooms 0;
  right_room = room_in rooms 1;
  setting = setting_of dev;
  steps = dev.steps;
  faults = faults_of dev;
  off = is_off dev;
}

-- the base of a leg
abbrev pub leg_base : List Row → List Action → ℕ → Places → Purpose → ℕ → List SegmentNote
    → CutDevice Ram → Base (CutSetting (Unit {0})) Course
leg_base rows script driver layout purpose offset notes dev =
    base_with dev (application_pages offset notes)
    (rooms_of driver (driver_room (length_for purpose)) (worker_room script))
    (course_from driver rows layout purpose)

-- ---- what they do

module _ {S : Type 0} where
  -- the driver can do its job, and the other core can work on its script
  abbrev pub CanRunBoth : ℕ → Places → Purpose → List SegmentNote → List Row → List Action
      → Own (Base S Course) Did → Own (Base S Course) Did → Type 0
  CanRunBoth zero layout purpose notes rows script left right =
      CanDrive layout purpose (probe_in notes) left
      × CanWork part_of Grants part_after rows script right
  CanRunBoth (suc driver) layout purpose notes rows script left right =
      CanDrive layout purpose (probe_in notes) right
      × CanWork part_of Grants part_after rows script left

  -- they did, as far as the device let them
  abbrev pub HaveRun : ℕ → Places → Purpose → List SegmentNote → List Row → List Action
      → Result LegEnd StepNo → Result (Unit {0}) StepNo → Own (Base S Course) Did
      → Own (Base S Course) Did → Own (Base S Course) Did → Own (Base S Course) Did → Type 0
  HaveRun zero layout purpose notes rows script driven worked left right left' right' =
      HasDriven layout purpose (probe_in notes) driven left left'
      × HasWorked rows script (fault_of worked) right right'
  HaveRun (suc driver) layout purpose notes rows script driven worked left right left' right' =
      HasDriven layout purpose (probe_in notes) driven right right'
      × HasWorked rows script (fault_of worked) left left'

-- how the leg ends where nothing breaks off
abbrev pub whole_by : Result LegEnd StepNo → LegEnd
whole_by (Ok end) = end
whole_by (Err why) = Done

-- ---- what comes back

-- the bus of a leg stands for its base and what core 0 and core 1 did
abbrev pub StandsFor : Hub (CutDevice Ram) Course → Base (CutSetting (Unit {0})) Course → List Did
    → List Did → Type 0
StandsFor = Stands told_bytes is_off (λ dev. dev.steps) faults_of setting_of MayEnd MayTear MayRefuse
    MustRefuse part_of Grants course_after IsGood

-- what a device that came back tells of the leg, whatever it began with
abbrev pub TellsLeg : ℕ → LegEnd → CutDevice Ram → Leg → Type 0
TellsLeg before whole dev leg = (old : CutDevice Ram) (wanted : LegEnd) → IsReady old
    → old.steps ≡ before → length dev.inner.bytes ≡ length old.inner.bytes
    → setting_of dev ≡ setting_of old
    → IsUnbroken old dev.steps ⊎ IsBad old.cut old.fail dev.steps → IsWholeEnd wanted
    → (¬ IsBad old.cut old.fail dev.steps → whole ≡ wanted) → IsRan old dev wanted leg

-- the bus over which both cores are closed, and the device that came back of it
pub record IsClosed (before : ℕ) (whole : LegEnd)
    (left right : Own (Base (CutSetting (Unit {0})) Course) Did) (ran : Ran) : Type 0 where
  pub bus : Hub (CutDevice Ram) Course
  pub idle : bus.running ≡ None
  pub stands : OnBase left.base (λ b. StandsFor bus b left.share right.share)
  pub legal : OnBase left.base (λ b. IsLegal bus.journal.entries)
  pub journal : ran.journal ≡ bus.journal
  pub same : IsSameFlash bus.dev ran.dev
  pub tells : TellsLeg before whole ran.dev ran.leg

-- ---- the leg

-- a leg of both cores, for this purpose
pub record IsDuoLeg (rows : List Row) (script : List Action) (driver : ℕ) (layout : Places)
    (purpose : Purpose) (offset : ℕ) (notes : List SegmentNote) (old : CutDevice Ram) (ran : Ran)
    : Type 0 where
  pub ran_is : IsRan old ran.dev (end_for layout purpose) ran.leg
  pub leg : IsLeg (DriverShare layout purpose (probe_in notes)) (WorkerShare rows reset script)
      driver (λ m. m ≡ application_pages offset notes)
      (HoldsFor layout old.inner.bytes purpose (open_addresses rows)) old ran.dev ran.journal
  pub parked : IsParkedRun leg.left leg.right
  pub both : IsWholeEnd ran.leg.end → (leg.drove ≡ Ok tt) × (leg.worked ≡ Ok tt)
  pub done : IsWholeEnd ran.leg.end
      → StandsBeside old.inner.bytes (steps_for layout purpose) [] (open_addresses rows)
      ran.dev.inner.bytes
  pub behind : (before later : List Item) (flash : List ℕ)
      → leg.stands.stood.log ≡ before ++ later
      → made (of_core driver before) ≡ steps_for layout purpose
      → LeavesBehind leg.base before flash
      → StandsBeside old.inner.bytes (steps_for layout purpose) [] (open_addresses rows) flash
