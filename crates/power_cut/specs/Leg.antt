-- A leg in which both cores are at work: what each of them did, in one log.
use Rattle.std.specs.Prelude.{◌≡◌, ℕ, zero, suc, ◌-◌, List, ◌++◌, Result}
use Rattle.nor_device.specs.declared.nor.NorFault.{NorFault}
use Rattle.nor_device.specs.declared.step.Step.{Step}
use Rattle.nor_device.specs.Ram.{Ram}
use Rattle.crash_images.specs.declared.cut.CutSetting.{CutSetting}
use Rattle.crash_images.specs.Cut.{CutDevice}
use Rattle.crash_images.specs.Crash.{LeavesNow}
use Rattle.mmu_map.specs.Map.{Map}
use Rattle.bus_hub.specs.declared.did.Base.{Base}
use Rattle.bus_hub.specs.declared.did.Did.{Did}
use Rattle.bus_hub.specs.declared.duty.AnyDuty.{AnyDuty}
use Rattle.bus_hub.specs.declared.duty.AnyPart.{AnyPart}
use Rattle.bus_hub.specs.Room.{Kept}
use Rattle.bus_hub.specs.Log.{Item, State, reached}
use Rattle.bus_hub.specs.Hub.{Hub, IsBaseOf, Stands, begun, opened, step_of}
use Rattle.bus_hub.specs.Legal.{IsLegal}
use Rattle.power_cut.specs.Device.{MayEnd, MayTear, MayRefuse, MustRefuse, told_bytes, faults_of, is_off, setting_of}

-- a log says nothing of a duty: each step is allowed, and each flash is good
abbrev pub any_duty : AnyDuty
any_duty = record {}

abbrev pub any_part : AnyDuty → ℕ → AnyPart
any_part duty c = record {}

abbrev pub AnyGrants : AnyPart → Step → Type 0
AnyGrants part step = Unit {0}

abbrev pub any_after : AnyDuty → ℕ → Step → AnyDuty
any_after duty c step = duty

abbrev pub IsAnyGood : List ℕ → AnyDuty → List ℕ → Type 0
IsAnyGood first duty flash = Unit {0}

-- the bus over a device stands for a base and what core 0 and core 1 did
abbrev pub LegStands : Hub (CutDevice Ram) AnyDuty → Base (CutSetting (Unit {0})) AnyDuty
    → List Did → List Did → Type 0
LegStands =
    Stands told_bytes is_off (λ dev. dev.steps) faults_of setting_of MayEnd MayTear MayRefuse
    MustRefuse any_part AnyGrants any_after IsAnyGood

-- the bus behind a leg: no step runs; registers play no part
abbrev pub bus_behind : CutDevice Ram → Map → Kept → Hub (CutDevice Ram) AnyDuty
bus_behind dev map journal = opened dev map journal any_duty

-- the base of a leg that begins on this device, with this map and the journal's rooms
abbrev pub IsLegBase : Base (CutSetting (Unit {0})) AnyDuty → CutDevice Ram → Map → Kept → Type 0
IsLegBase base dev map journal =
    IsBaseOf told_bytes is_off (λ d. d.steps) faults_of setting_of base dev map journal any_duty

-- the share of a core
abbrev pub share_of : ℕ → List Did → List Did → List Did
share_of zero left right = left
share_of (suc c) left right = right

-- where a first part of a log leads
abbrev pub state_behind : Base (CutSetting (Unit {0})) AnyDuty → List Item → State AnyDuty
state_behind base before = reached any_after (begun base) before

-- a loss of power behind a first part of a log may leave this flash
abbrev pub LeavesBehind : Base (CutSetting (Unit {0})) AnyDuty → List Item → List ℕ → Type 0
LeavesBehind base before flash =
    LeavesNow (state_behind base before).flash (step_of (state_behind base before).running) flash

-- the device has the bytes, the setting and the number of steps of the other one
pub record IsSameFlash (dev other : CutDevice Ram) : Type 0 where
  pub bytes : dev.inner.bytes ≡ other.inner.bytes
  pub setting : setting_of dev ≡ setting_of other
  pub steps : dev.steps ≡ other.steps

-- a leg: `drives` tells which shares the driver may have that ended so, `works` the same of the
-- other core, `pages` with which map it begins, and `holds` what holds of the flash. One log of both
-- shares leads from the device at its begin to the flash behind it, with this journal; and at every
-- moment, of every flash that a loss of power may leave, it holds. `back` is the device as the bus
-- gave it back.
module _ (drives works : Result (Unit {0}) NorFault → List Did → Type 0) (driver : ℕ)
    (pages : Map → Type 0) (holds : List ℕ → Type 0) where
  pub record IsLeg (old new : CutDevice Ram) (journal : Kept) : Type 0 where
    pub base : Base (CutSetting (Unit {0})) AnyDuty
    pub map : Map
    pub opening : IsLegBase base old base.map journal
    pub mapped : pages base.map
    pub left : List Did
    pub right : List Did
    pub drove : Result (Unit {0}) NorFault
    pub worked : Result (Unit {0}) NorFault
    pub driver_share : drives drove (share_of driver left right)
    pub worker_share : works worked (share_of (1 - driver) left right)
    pub back : CutDevice Ram
    pub same : IsSameFlash back new
    pub stands : LegStands (bus_behind back map journal) base left right
    pub legal : IsLegal journal.entries
    pub moments : (before later : List Item) (flash : List ℕ)
        → stands.stood.log ≡ before ++ later → LeavesBehind base before flash → holds flash
