-- The device of an update: a flash in memory whose power goes off, or which fails, in the step of a
-- chosen number. What its calls may do, and how a leg on it ends.
use Rattle.std.specs.Prelude.{◌≡◌, ℕ, ◌+◌, ◌<◌, Bool, true, false, List, length, Option, Some, None}
use Rattle.nor_device.specs.declared.step.Step.{Step}
use Rattle.nor_device.specs.declared.nor.StepEnd.{StepEnd}
use Rattle.nor_device.specs.declared.nor.StepEnd.TheVariants as ends
use Rattle.nor_device.specs.declared.nor.NorFault.{NorFault}
use Rattle.nor_device.specs.Ram.{Ram}
use Rattle.crash_images.specs.declared.cut.CutSetting.{CutSetting}
use Rattle.crash_images.specs.Cut.{CutDevice, CutMayEnd, CutMayTear, CutMayRefuse, IsAhead, IsBad, off_by, running_by}
use Rattle.power_cut.specs.declared.legs.Leg.{Leg}
use Rattle.power_cut.specs.declared.legs.LegEnd.{LegEnd}
use Rattle.power_cut.specs.declared.legs.LegEnd.TheVariants.{Done, Device, Cut, FirstByte, Empty, Bad}

-- the bytes, which it always tells
abbrev pub told_bytes : CutDevice Ram → Option (List ℕ)
told_bytes dev = Some dev.inner.bytes

-- the step that runs
abbrev pub running_in : CutDevice Ram → Option Step
running_in dev = running_by dev.health dev.inner.running

-- the power is off
abbrev pub is_off : CutDevice Ram → Bool
is_off dev = off_by dev.health false

-- the count of faults
abbrev pub faults_of : CutDevice Ram → ℕ
faults_of dev = dev.faults + 0

-- the setting: the chosen step and the tear number
abbrev pub setting_of : CutDevice Ram → CutSetting (Unit {0})
setting_of dev = record { cut = dev.cut; tear = dev.tear; fail = dev.fail; inner = tt }

-- the flash inside ends each step whole, and refuses nothing
abbrev pub RamMayEnd : Unit {0} → ℕ → StepEnd → Type 0
RamMayEnd set n end = end ≡ ends.Done

abbrev pub RamMayRefuse : Unit {0} → ℕ → NorFault → Type 0
RamMayRefuse set n why = ⊥

-- so of the device: how the step of a number may end, what it may leave, which refusals may come
-- behind it, and where they must
abbrev pub MayEnd : CutSetting (Unit {0}) → ℕ → StepEnd → Type 0
MayEnd set n end = CutMayEnd RamMayEnd RamMayRefuse set n end

abbrev pub MayTear : CutSetting (Unit {0}) → ℕ → List ℕ → Step → List ℕ → Type 0
MayTear set n old step new = CutMayTear RamMayEnd RamMayRefuse set n old step new

abbrev pub MayRefuse : CutSetting (Unit {0}) → ℕ → NorFault → Type 0
MayRefuse set n why = CutMayRefuse RamMayEnd RamMayRefuse set n why

abbrev pub MustRefuse : CutSetting (Unit {0}) → ℕ → Type 0
MustRefuse set n = IsBad set.cut set.fail n

-- the chosen step of this number was begun in the leg, and is its last
pub record BrokeAt (chosen : Option ℕ) (before now k : ℕ) : Type 0 where
  pub chosen_is : chosen ≡ Some k
  pub later : before < k
  pub last : now ≡ k

-- neither chosen step was begun by now
pub record IsUnbroken (dev : CutDevice Ram) (now : ℕ) : Type 0 where
  pub cut_ahead : IsAhead dev.cut now
  pub fail_ahead : IsAhead dev.fail now

-- no step runs, the power is on, and a chosen step is still to come
pub record IsReady (dev : CutDevice Ram) : Type 0 where
  pub idle : running_in dev ≡ None
  pub on : is_off dev ≡ false
  pub ahead : IsUnbroken dev dev.steps

-- the end of a leg that began on this device, by the number of its last step: where the chosen step
-- was begun, it broke off there; else it has the end of a whole leg
abbrev pub HasEnd : CutDevice Ram → ℕ → LegEnd → LegEnd → Type 0
HasEnd old now whole (Cut k) = BrokeAt old.cut old.steps now k
HasEnd old now whole (Device k) = BrokeAt old.fail old.steps now k
HasEnd old now whole Done = IsUnbroken old now × (whole ≡ Done)
HasEnd old now whole Empty = IsUnbroken old now × (whole ≡ Empty)
HasEnd old now whole (FirstByte byte) = IsUnbroken old now × (whole ≡ FirstByte byte)
HasEnd old now whole (Bad why) = IsUnbroken old now × (whole ≡ Bad why)

-- the leg did not break off
abbrev pub IsWholeEnd : LegEnd → Type 0
IsWholeEnd Done = Unit {0}
IsWholeEnd (Device k) = ⊥
IsWholeEnd (Cut k) = ⊥
IsWholeEnd (FirstByte byte) = Unit {0}
IsWholeEnd Empty = Unit {0}
IsWholeEnd (Bad why) = Unit {0}

-- the power went off in the leg
abbrev pub is_cut : LegEnd → Bool
is_cut Done = false
is_cut (Device k) = false
is_cut (Cut k) = true
is_cut (FirstByte byte) = false
is_cut Empty = false
is_cut (Bad why) = false

-- what a leg on this device leaves of it: no step runs; size and setting stay; the number of steps
-- rose by those of the leg; the leg's end, which is this one where nothing broke off; and the power
-- is off exactly where it ends with a cut
pub record IsRan (old new : CutDevice Ram) (whole : LegEnd) (leg : Leg) : Type 0 where
  pub idle : running_in new ≡ None
  pub size : length new.inner.bytes ≡ length old.inner.bytes
  pub setting : setting_of new ≡ setting_of old
  pub steps : new.steps ≡ old.steps + leg.steps
  pub end : HasEnd old new.steps whole leg.end
  pub power : is_off new ≡ is_cut leg.end
