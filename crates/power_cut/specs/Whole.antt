-- A whole update: its legs, and how far it came.
use Rattle.std.specs.Prelude.{◌≡◌, ◌≢◌, ℕ, ◌+◌, Bool, true, false, ◌&&◌, List, [], ◌∷◌, ◌++◌, Option, Some, None, Result, Ok, Err, IfOk}
use Rattle.std.specs.Borrow.{Bor}
use Rattle.nor_device.specs.declared.nor.NorFault.{NorFault}
use Rattle.nor_device.specs.declared.nor.NorFault.TheVariants.{Failed, Off}
use Rattle.nor_device.specs.declared.step.Step.{Step}
use Rattle.nor_device.specs.Flash.{after_steps}
use Rattle.nor_device.specs.Ram.{Ram}
use Rattle.crash_images.specs.Crash.{LeftAfter}
use Rattle.crash_images.specs.Cut.{CutDevice, restarted}
use Rattle.partition_table.specs.declared.app.App.TheVariants.{Ota}
use Rattle.partition_table.specs.Layout.{Places}
use Rattle.boot_select.specs.Boots.{entries_in, images_in}
use Rattle.rollback.specs.declared.rewrite.Rewrite.{Rewrite}
use Rattle.rollback.specs.Boots.{boots_in}
use Rattle.image_verify.specs.Held.{held}
use Rattle.bus_hub.specs.Room.{Kept}
use Rattle.boot_run.specs.declared.aims.Aim.{Aim}
use Rattle.boot_run.specs.declared.booted.Booted.{Booted}
use Rattle.boot_run.specs.Booted.{IsBoot}
use Rattle.boot_run.specs.Made.{AreMadeBy}
use Rattle.boot_run.specs.BootSteps.{boot_steps}
use Rattle.boot_run.specs.Rewriting.{rewrite}
use Rattle.boot_run.specs.Verified.{Starts}
use Rattle.update_steps.specs.Beside.{IsApart, StandsBeside}
use Rattle.update_steps.specs.Driver.{driver_steps}
use Rattle.power_cut.specs.declared.legs.Leg.{Leg}
use Rattle.power_cut.specs.declared.legs.LegEnd.{LegEnd}
use Rattle.power_cut.specs.declared.legs.LegEnd.TheVariants.{Done, Device, Cut, FirstByte, Empty, Bad}
use Rattle.power_cut.specs.declared.legs.Ran.{Ran}
use Rattle.power_cut.specs.declared.legs.Upto.{Upto}
use Rattle.power_cut.specs.declared.legs.Upto.TheVariants.{Session, Boot, Confirm}
use Rattle.power_cut.specs.declared.outcome.Trial.{Trial}
use Rattle.power_cut.specs.Device.{HasEnd, IsRan, IsReady, MayEnd, MayRefuse, MayTear, MustRefuse, setting_of}
use Rattle.power_cut.specs.Update.{BootsEither, HoldsRewrite, session_end, slot_size}
use Rattle.power_cut.specs.Kept.{MayConfirm}

-- at every moment of a boot of this flash: of each flash that a loss of power may leave one of both
-- applications boots, but for chance, seen from the first flash; and some application boots
abbrev pub HoldsBoot : Places → List ℕ → Aim → List ℕ → List ℕ → Type 0
HoldsBoot layout first aim image flash =
    (left : List ℕ) → LeftAfter flash (boot_steps layout flash) left
    → BootsEither layout first aim image left × (boots_in held layout left ≢ None)

-- so boots, at every moment of a confirmation that makes this rewrite, each flash of which
-- `HoldsRewrite` holds, beside a core that writes to nothing that a boot reads
abbrev pub HoldsConfirm : Places → List ℕ → Aim → List ℕ → List ℕ → Rewrite → Type 0
HoldsConfirm layout first aim image flash write =
    (others : ℕ → Bool) (left : List ℕ) → IsApart layout others
    → HoldsRewrite layout flash write others left → BootsEither layout first aim image left

-- the new application boots
abbrev pub BootsNew : Places → Aim → List ℕ → List ℕ → Type 0
BootsNew layout aim image left = boots_in held layout left ≡ Some (Ota aim.slot, image)

-- so it does of each flash that stands behind all of these steps, beside a core that writes to nothing
-- that a boot reads
abbrev pub BootsNewBehind : Places → Aim → List ℕ → List ℕ → List Step → Type 0
BootsNewBehind layout aim image flash steps =
    (others : ℕ → Bool) (left : List ℕ) → IsApart layout others
    → StandsBeside flash steps [] others left → BootsNew layout aim image left

-- how a boot that answered so ends as a leg whose last step has this number
abbrev pub end_by : ℕ → Result (Option Booted) NorFault → LegEnd
end_by now (Ok booted) = Done
end_by now (Err Failed) = Device now
end_by now (Err Off) = Cut now

-- what such a boot has started
abbrev pub started_by : Result (Option Booted) NorFault → Option Booted
started_by (Ok booted) = booted
started_by (Err why) = None

-- the boot of an update: the steps of a boot of this flash were made, or the first of them, and the
-- answer is what boots
pub record IsBootLeg (layout : Places) (old new : CutDevice Ram) (leg : Leg) : Type 0 where
  pub ran : IsRan old new Done leg
  pub answer : Result (Option Booted) NorFault
  pub made : AreMadeBy MayEnd MayTear MayRefuse MustRefuse (setting_of old)
      (boot_steps layout old.inner.bytes) old.steps new.steps (Some old.inner.bytes)
      (Some new.inner.bytes) answer
  pub end : leg.end ≡ end_by new.steps answer
  pub booted : IfOk answer (IsBoot layout (images_in held layout old.inner.bytes)
      (entries_in layout old.inner.bytes))

-- the leg was made whole
abbrev pub is_done : LegEnd → Bool
is_done Done = true
is_done (Device k) = false
is_done (Cut k) = false
is_done (FirstByte byte) = false
is_done Empty = false
is_done (Bad why) = false

-- what a boot leaves that has started an application: all steps are made, the device is ready, and
-- the application is the one that boots of the flash before; or the leg was not made whole
abbrev pub HasBooted : Places → CutDevice Ram → CutDevice Ram → Leg → Option Booted → Type 0
HasBooted layout old new leg None = is_done leg.end ≡ false
HasBooted layout old new leg (Some at) =
    IsReady new × (is_done leg.end ≡ true)
    × (new.inner.bytes ≡ after_steps old.inner.bytes (boot_steps layout old.inner.bytes))
    × Starts (boots_in held layout old.inner.bytes) at.app at.info

-- a boot is to follow the session, and a confirmation the boot
abbrev pub wants_boot : Upto → Bool
wants_boot Session = false
wants_boot Boot = true
wants_boot Confirm = true

abbrev pub wants_confirm : Upto → Bool
wants_confirm Session = false
wants_confirm Boot = false
wants_confirm Confirm = true

-- what was booted, where it is to be confirmed
abbrev pub confirm_of : Upto → Option Booted → Option Booted
confirm_of Session booted = None
confirm_of Boot booted = None
confirm_of Confirm booted = booted

-- the update ends with these legs, this journal of a confirmation, and the flash of this device
pub record EndsWith (legs : List Leg) (confirm : Option Kept) (dev : CutDevice Ram) (t : Trial)
    : Type 0 where
  pub legs_are : t.legs.items ≡ legs
  pub confirm_is : t.confirm ≡ confirm
  pub flash_is : t.flash.items ≡ dev.inner.bytes

-- `confirms` tells which confirmations there may be, of a device, what was booted, and a rewrite; the
-- update began on the flash `first`, and is of `image`
module _ (confirms : CutDevice Ram → Bor Booted → Bor Rewrite → Ran → Type 0) (layout : Places)
    (first : List ℕ) (aim : Aim) (image : List ℕ) where
  -- behind the boot: a confirmation of what was booted, what holds at its moments, and once all of its
  -- steps are made
  pub record EndsConfirmed (legs : List Leg) (dev : CutDevice Ram) (t : Trial) : Type 0 where
    pub at : Bor Booted
    pub write : Bor Rewrite
    pub may : MayConfirm layout first dev at.now write.now
    pub ran : Ran
    pub confirmed : confirms dev at write ran
    pub moments : HoldsConfirm layout first aim image dev.inner.bytes write.now
    pub once : BootsNewBehind layout aim image dev.inner.bytes (rewrite layout.otadata write.now)
    pub ends : EndsWith (legs ++ ran.leg ∷ []) (Some ran.journal) ran.dev t

  -- or nothing
  abbrev pub BehindBoot : Bool → List Leg → CutDevice Ram → Trial → Type 0
  BehindBoot false legs dev t = EndsWith legs None dev t
  BehindBoot true legs dev t = EndsConfirmed legs dev t

  -- behind the session: a boot of the device, whose power is on again, and what holds at its moments
  pub record EndsBooted (upto : Upto) (session : Leg) (old : CutDevice Ram) (t : Trial)
      : Type 0 where
    pub new : CutDevice Ram
    pub leg : Leg
    pub booted : IsBootLeg layout (restarted old) new leg
    pub moments : HoldsBoot layout first aim image old.inner.bytes
    pub behind : BehindBoot (wants_confirm upto && is_done leg.end) (session ∷ leg ∷ []) new t

  -- or nothing
  abbrev pub BehindSession : Bool → Upto → Leg → CutDevice Ram → Trial → Type 0
  BehindSession false upto session dev t = EndsWith (session ∷ []) None dev t
  BehindSession true upto session dev t = EndsBooted upto session dev t

-- an update on a device, as far as this: a session, a boot and a confirmation, and the first leg
-- whose end isn't Done is the last. `writes` tells which sessions there may be; once all steps of one
-- are made whose image is whole, the new application boots.
pub record IsTrial (writes : Ran → Type 0)
    (confirms : CutDevice Ram → Bor Booted → Bor Rewrite → Ran → Type 0)
    (layout : Places) (first : List ℕ) (aim : Aim) (image : List ℕ) (upto : Upto) (t : Trial)
    : Type 0 where
  pub session : Ran
  pub written : writes session
  pub journal : t.session ≡ session.journal
  pub announced : session_end (slot_size layout aim.slot) image ≡ Done
      → BootsNewBehind layout aim image first (driver_steps layout aim image)
  pub behind : BehindSession confirms layout first aim image
      (wants_boot upto && is_done session.leg.end) upto session.leg session.dev t

-- each of its legs was made whole
abbrev pub AreDone : List Leg → Type 0
AreDone [] = Unit {0}
AreDone (leg ∷ legs) = (leg.end ≡ Done) × AreDone legs

-- an update was closed with these parts of it: what boots of its flash is told
pub record IsClosed (layout : Places) (legs : List Leg) (session : Kept) (confirm : Option Kept)
    (dev : CutDevice Ram) (t : Trial) : Type 0 where
  pub ends : EndsWith legs confirm dev t
  pub session_is : t.session ≡ session
  pub after : IsBoot layout (images_in held layout t.flash.items)
      (entries_in layout t.flash.items) (Some t.after)

-- the steps of all legs
abbrev pub total_steps : List Leg → ℕ
total_steps [] = 0
total_steps (leg ∷ legs) = leg.steps + total_steps legs

-- how the last leg ended
abbrev pub last_end : LegEnd → List Leg → LegEnd
last_end end [] = end
last_end end (leg ∷ legs) = last_end leg.end legs

-- how an update ends that began on this device: with a cut or a failure exactly where the chosen
-- step was begun in it, which is then its last one
abbrev pub EndsAsChosen : CutDevice Ram → List Leg → Type 0
EndsAsChosen dev legs =
    HasEnd dev (dev.steps + total_steps legs) (last_end Done legs) (last_end Done legs)

-- an update and what it has left: one of both applications boots, and some in every case; and where
-- its last leg is made whole and is no boot, the new one
pub record IsOutcome (writes : Ran → Type 0)
    (confirms : CutDevice Ram → Bor Booted → Bor Rewrite → Ran → Type 0) (layout : Places)
    (old : CutDevice Ram) (aim : Aim) (image : List ℕ) (upto : Upto) (t : Trial) : Type 0 where
  pub trial : IsTrial writes confirms layout old.inner.bytes aim image upto t
  pub end : EndsAsChosen old t.legs.items
  pub boots : BootsEither layout old.inner.bytes aim image t.flash.items
  pub after : IsBoot layout (images_in held layout t.flash.items)
      (entries_in layout t.flash.items) (Some t.after)
  pub installed : upto ≢ Boot → AreDone t.legs.items → BootsNew layout aim image t.flash.items
