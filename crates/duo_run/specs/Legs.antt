-- The legs of an update with both cores: what each core's share is, and when a leg may be run.
use Rattle.std.specs.Prelude.{◌≡◌, ℕ, List, IfSome, Result}
use Rattle.core_state.specs.Registers.{reset}
use Rattle.nor_device.specs.declared.nor.NorFault.{NorFault}
use Rattle.nor_device.specs.Ram.{Ram}
use Rattle.crash_images.specs.Cut.{CutDevice}
use Rattle.partition_table.specs.declared.app.App.{App}
use Rattle.partition_table.specs.declared.row.Row.{Row}
use Rattle.partition_table.specs.Layout.{Places, row_for}
use Rattle.rollback.specs.declared.rewrite.Rewrite.{Rewrite}
use Rattle.image_verify.specs.declared.info.ImageInfo.{ImageInfo}
use Rattle.mmu_map.specs.Map.{Map}
use Rattle.bus_hub.specs.declared.did.Did.{Did}
use Rattle.boot_run.specs.declared.aims.Aim.{Aim}
use Rattle.boot_run.specs.declared.booted.Booted.{Booted}
use Rattle.core_script.specs.declared.action.Action.{Action}
use Rattle.flash_steps.specs.Parts.{open_addresses}
use Rattle.flash_ops.specs.Moves.{Ran as HasMoved}
use Rattle.ota_session.specs.Stages.{confirm_moves, session_moves}
use Rattle.power_cut.specs.declared.legs.Ran.{Ran}
use Rattle.power_cut.specs.Device.{IsReady}
use Rattle.power_cut.specs.Kept.{IsConfirmLeg, IsConfirming, IsSessionLeg, IsStarted}
use Rattle.power_cut.specs.Update.{Opens}
use Rattle.duo_run.specs.Both.{HasTable}
use Rattle.duo_run.specs.Pages.{application_pages, probe_in}
use Rattle.duo_run.specs.Parked.{IsParkedRun}
use Rattle.duo_run.specs.Worker.{WorkerShare}

-- the share of the core that drives a session
abbrev pub SessionShare : Places → Aim → List ℕ → Result (Unit {0}) NorFault → List Did → Type 0
SessionShare layout aim image r items =
    HasMoved 0 reset (session_moves layout aim (probe_in aim.info.segments.items) image) r items

-- the share of the core that drives the confirmation of what was booted
abbrev pub ConfirmShare : Places → Booted → Rewrite → Result (Unit {0}) NorFault → List Did → Type 0
ConfirmShare layout at write r items =
    HasMoved 0 reset (confirm_moves layout write (probe_in at.info.segments.items)) r items

-- the map of a leg is that of the application that runs
abbrev pub ShowsApp : Places → App → ImageInfo → Map → Type 0
ShowsApp layout app info m =
    IfSome (row_for layout app) (λ row. m ≡ application_pages row.offset info.segments.items)

-- a session may be run on this device
pub record MayInstall (rows : List Row) (layout : Places) (aim : Aim) (image : List ℕ)
    (dev : CutDevice Ram) : Type 0 where
  pub ready : IsReady dev
  pub table : HasTable rows layout dev.inner.bytes
  pub opens : Opens layout dev.inner.bytes aim image

-- and a confirmation
pub record MayAffirm (rows : List Row) (layout : Places) (at : Booted) (write : Rewrite)
    (dev : CutDevice Ram) : Type 0 where
  pub ready : IsReady dev
  pub table : HasTable rows layout dev.inner.bytes
  pub started : IsStarted layout dev.inner.bytes at
  pub confirming : IsConfirming layout dev.inner.bytes write

-- a session of both cores: the leg, and the run of the parking machine behind both shares of it
pub record IsDuoSession (rows : List Row) (script : List Action) (driver : ℕ) (layout : Places)
    (aim : Aim) (image : List ℕ) (old : CutDevice Ram) (ran : Ran) : Type 0 where
  pub leg : IsSessionLeg (SessionShare layout aim image) (WorkerShare rows reset script) driver
      (ShowsApp layout aim.running aim.info) layout (open_addresses rows) aim image old ran
  pub parked : IsParkedRun leg.leg.left leg.leg.right

-- a confirmation of both
pub record IsDuoConfirm (rows : List Row) (script : List Action) (driver : ℕ) (layout : Places)
    (at : Booted) (write : Rewrite) (old : CutDevice Ram) (ran : Ran) : Type 0 where
  pub leg : IsConfirmLeg (ConfirmShare layout at write) (WorkerShare rows reset script) driver
      (ShowsApp layout at.app at.info) layout (open_addresses rows) write old ran
  pub parked : IsParkedRun leg.leg.left leg.leg.right
