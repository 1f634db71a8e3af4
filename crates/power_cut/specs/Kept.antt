-- The two legs of an update in which both cores are at work, and what a trial needs of them.
use Rattle.std.specs.Prelude.{◌≡◌, ◌≢◌, ℕ, ◌<◌, Bool, List, [], ◌++◌, length, Some, None, Result, Ok}
use Rattle.nor_device.specs.declared.nor.NorFault.{NorFault}
use Rattle.nor_device.specs.Nor.{part_of}
use Rattle.nor_device.specs.Ram.{Ram}
use Rattle.crash_images.specs.Cut.{CutDevice}
use Rattle.partition_table.specs.Layout.{Places}
use Rattle.otadata.specs.Choice.{active_of}
use Rattle.boot_select.specs.Boots.{entries_in, first_held, images_in, names}
use Rattle.boot_select.specs.Candidates.{candidates}
use Rattle.rollback.specs.declared.rewrite.Rewrite.{Rewrite}
use Rattle.rollback.specs.Boots.{boots_in}
use Rattle.rollback.specs.Rewrite.{restated}
use Rattle.image_verify.specs.Held.{held}
use Rattle.mmu_map.specs.Map.{Map}
use Rattle.bus_hub.specs.declared.did.Did.{Did}
use Rattle.bus_hub.specs.Log.{Item, of_core}
use Rattle.bus_hub.specs.Shares.{made}
use Rattle.boot_run.specs.declared.aims.Aim.{Aim}
use Rattle.boot_run.specs.declared.booted.Booted.{Booted}
use Rattle.boot_run.specs.Rewriting.{rewrite}
use Rattle.boot_run.specs.Verified.{Starts}
use Rattle.update_steps.specs.Beside.{IsApart, StandsBeside}
use Rattle.update_steps.specs.Driver.{driver_steps}
use Rattle.power_cut.specs.declared.legs.LegEnd.TheVariants.{Done}
use Rattle.power_cut.specs.declared.legs.Ran.{Ran}
use Rattle.power_cut.specs.Device.{IsRan, IsReady, IsWholeEnd}
use Rattle.power_cut.specs.Leg.{IsLeg, LeavesBehind}
use Rattle.power_cut.specs.Update.{HoldsRewrite, HoldsUpdate, session_end, slot_size}

module _ (drives works : Result (Unit {0}) NorFault → List Did → Type 0) (driver : ℕ)
    (pages : Map → Type 0) where
  -- a session: a leg whose steps are those of the update; where nothing broke off, all are made, and
  -- once the driver has made all, they stand on every flash that a loss of power may leave
  pub record IsSessionLeg (layout : Places) (others : ℕ → Bool) (aim : Aim) (image : List ℕ)
      (old : CutDevice Ram) (ran : Ran) : Type 0 where
    pub ran_is : IsRan old ran.dev (session_end (slot_size layout aim.slot) image) ran.leg
    pub leg : IsLeg drives works driver pages
        (HoldsUpdate layout old.inner.bytes aim image others) old ran.dev ran.journal
    pub both : IsWholeEnd ran.leg.end → (leg.drove ≡ Ok tt) × (leg.worked ≡ Ok tt)
    pub done : IsWholeEnd ran.leg.end
        → StandsBeside old.inner.bytes (driver_steps layout aim image) [] others
        ran.dev.inner.bytes
    pub behind : (before later : List Item) (flash : List ℕ)
        → leg.stands.stood.log ≡ before ++ later
        → made (of_core driver before) ≡ driver_steps layout aim image
        → LeavesBehind leg.base before flash
        → StandsBeside old.inner.bytes (driver_steps layout aim image) [] others flash

  -- a confirmation: a leg whose steps are those of the rewrite
  pub record IsConfirmLeg (layout : Places) (others : ℕ → Bool) (write : Rewrite)
      (old : CutDevice Ram) (ran : Ran) : Type 0 where
    pub ran_is : IsRan old ran.dev Done ran.leg
    pub leg : IsLeg drives works driver pages
        (HoldsRewrite layout old.inner.bytes write others) old ran.dev ran.journal
    pub both : IsWholeEnd ran.leg.end → (leg.drove ≡ Ok tt) × (leg.worked ≡ Ok tt)
    pub done : IsWholeEnd ran.leg.end
        → StandsBeside old.inner.bytes (rewrite layout.otadata write) [] others
        ran.dev.inner.bytes
    pub behind : (before later : List Item) (flash : List ℕ)
        → leg.stands.stood.log ≡ before ++ later
        → made (of_core driver before) ≡ rewrite layout.otadata write
        → LeavesBehind leg.base before flash
        → StandsBeside old.inner.bytes (rewrite layout.otadata write) [] others flash

-- what a session keeps, whatever the other core did: the device, and what stands on its flash
pub record KeepsSession (layout : Places) (aim : Aim) (image : List ℕ) (old : CutDevice Ram)
    (ran : Ran) : Type 0 where
  pub ran_is : IsRan old ran.dev (session_end (slot_size layout aim.slot) image) ran.leg
  pub others : ℕ → Bool
  pub apart : IsApart layout others
  pub holds : HoldsUpdate layout old.inner.bytes aim image others ran.dev.inner.bytes
  pub done : IsWholeEnd ran.leg.end
      → StandsBeside old.inner.bytes (driver_steps layout aim image) [] others ran.dev.inner.bytes

-- the same of a confirmation
pub record KeepsConfirm (layout : Places) (write : Rewrite) (old : CutDevice Ram) (ran : Ran)
    : Type 0 where
  pub ran_is : IsRan old ran.dev Done ran.leg
  pub others : ℕ → Bool
  pub apart : IsApart layout others
  pub holds : HoldsRewrite layout old.inner.bytes write others ran.dev.inner.bytes
  pub done : IsWholeEnd ran.leg.end
      → StandsBeside old.inner.bytes (rewrite layout.otadata write) [] others ran.dev.inner.bytes

-- the first candidate of a flash that has an image, and what is told of it, as the boot that left
-- this flash answers
abbrev pub IsStarted : Places → List ℕ → Booted → Type 0
IsStarted layout flash at =
    Starts (first_held (images_in held layout flash)
    (candidates layout (names layout (entries_in layout flash)))) at.app at.info

-- the rewrite of the active entry of a flash with VALID
pub record IsConfirming (layout : Places) (flash : List ℕ) (write : Rewrite) : Type 0 where
  pub two : write.sector < 2
  pub active : active_of (entries_in layout flash 0) (entries_in layout flash 1)
      ≡ Some write.sector
  pub write_is : write ≡ restated 2 write.sector (entries_in layout flash write.sector)

-- when a confirmation may be run that follows an update which began on the first flash: the device
-- answers, has the size and the table of that flash, and was booted; and some application boots
pub record MayConfirm (layout : Places) (first : List ℕ) (dev : CutDevice Ram) (at : Booted)
    (write : Rewrite) : Type 0 where
  pub ready : IsReady dev
  pub size : length dev.inner.bytes ≡ length first
  pub table : part_of dev.inner.bytes 0x8000 0xC00 ≡ part_of first 0x8000 0xC00
  pub started : IsStarted layout dev.inner.bytes at
  pub confirming : IsConfirming layout dev.inner.bytes write
  pub some : boots_in held layout dev.inner.bytes ≢ None
