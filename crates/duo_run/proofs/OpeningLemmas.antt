-- What a leg on a flash with a table begins with, and what a trial asks of its legs.
use Rattle.std.proofs.Common.{◌≡◌, ◌<◌, ℕ, List, length, All, Ok}
use Rattle.nor_device.specs.Ram.{Ram}
use Rattle.crash_images.specs.Cut.{CutDevice}
use Rattle.partition_table.specs.declared.row.Row.{Row}
use Rattle.partition_table.specs.Layout.{Places, layout_in}
use Rattle.boot_select.specs.Boots.{entries_in, images_in}
use Rattle.image_verify.specs.Held.{held}
use Rattle.rollback.specs.declared.rewrite.Rewrite.{Rewrite}
use Rattle.core_script.specs.declared.action.Action.{Action}
use Rattle.core_state.specs.Registers.{reset}
use Rattle.flash_steps.specs.Parts.{open_addresses}
use Rattle.boot_run.specs.declared.aims.Aim.{Aim}
use Rattle.boot_run.specs.declared.booted.Booted.{Booted}
use Rattle.boot_run.specs.Aim.{IsAimed}
use Rattle.update_steps.proofs.ApartLemmas.{flash_apart}
use Rattle.update_steps.proofs.TableLemmas.{table_opens}
use Rattle.power_cut.specs.declared.legs.Ran.{Ran}
use Rattle.power_cut.specs.Kept.{KeepsConfirm, KeepsSession}
use Rattle.power_cut.specs.Update.{Opens}
use Rattle.power_cut.proofs.LegLemmas.{confirm_keeps, session_keeps}
use Rattle.power_cut.proofs.OpensLemmas.{opens_by}
use Rattle.duo_run.specs.Both.{HasTable}
use Rattle.duo_run.specs.Legs.{ConfirmShare, IsDuoConfirm, IsDuoSession, SessionShare, ShowsApp}
use Rattle.duo_run.specs.Worker.{WorkerShare}

-- a layout by the table of a flash is that of the flash
pub table_lays : (flash : List ℕ) (rows : List Row) (layout : Places) → HasTable rows layout flash
    → layout_in flash ≡ Ok layout
unfolding layout_in
table_lays flash rows layout has = rw has.table has.layout_is

-- what is aimed at on a flash by its table opens an update there
pub aimed_opens : (flash : List ℕ) (rows : List Row) (layout : Places) (aim : Aim)
    (image : List ℕ) → HasTable rows layout flash → All (λ b. b < 256) image
    → IsAimed layout (images_in held layout flash) (entries_in layout flash) (length image) aim
    → Opens layout flash aim image
aimed_opens flash rows layout aim image has bytes aims =
    let opening = table_opens flash layout aim image (table_lays flash rows layout has) bytes aims in
    opens_by layout flash aim opening.0 image opening.1

module _ (rows : List Row) (script : List Action) (driver : ℕ) (layout : Places)
    (first : List ℕ) (has : HasTable rows layout first) where
  -- a session of both cores keeps what a trial asks
  pub duo_keeps : (aim : Aim) (image : List ℕ) (old : CutDevice Ram) (ran : Ran)
      → IsDuoSession rows script driver layout aim image old ran
      → KeepsSession layout aim image old ran
  duo_keeps aim image old ran is =
      session_keeps (SessionShare layout aim image) (WorkerShare rows reset script) driver
      (ShowsApp layout aim.running aim.info) layout (open_addresses rows)
      (flash_apart first rows layout has.table (table_lays first rows layout has))
      aim image old ran is.leg

  -- and so does a confirmation
  pub duo_affirms : (at : Booted) (write : Rewrite) (old : CutDevice Ram) (ran : Ran)
      → IsDuoConfirm rows script driver layout at write old ran
      → KeepsConfirm layout write old ran
  duo_affirms at write old ran is =
      confirm_keeps (ConfirmShare layout at write) (WorkerShare rows reset script) driver
      (ShowsApp layout at.app at.info) layout (open_addresses rows)
      (flash_apart first rows layout has.table (table_lays first rows layout has))
      write old ran is.leg
