-- How many steps an update and a script have at most.
use Rattle.std.proofs.Common.{◌≡◌, ◌≤◌, ℕ, ◌+◌, ◌*◌, ◌/◌, ◌%◌, ◌^◌, Bool, true, false, List, [], ◌∷◌, length, length-append, Result, Ok, Err, refl, ap, arith}
use Rattle.std.specs.Prelude.{◌==◌, if◌then◌else◌}
use Rattle.partition_table.specs.declared.row.Row.{Row}
use Rattle.partition_table.specs.Layout.{Places}
use Rattle.partition_table.specs.Rules.{FitsFlash}
use Rattle.flash_steps.specs.declared.refusal.PartNo.{PartNo}
use Rattle.flash_steps.specs.Parts.{part_erase_steps, part_write_steps, steps_in}
use Rattle.flash_steps.specs.Rules.{erase_checked, write_checked}
use Rattle.flash_steps.specs.Steps.{erase_steps, pages_in, write_steps}
use Rattle.flash_steps.proofs.EraseLemmas.{count_of_erase}
use Rattle.flash_steps.proofs.PartLemmas.{erase_open, write_open}
use Rattle.flash_steps.proofs.RuleLemmas.{part_of}
use Rattle.flash_steps.proofs.WriteLemmas.{count_of_write}
use Rattle.core_script.specs.declared.action.Action.{Action}
use Rattle.core_script.specs.declared.action.Action.TheVariants.{Fetch, Mask, Irq, Map, Unmap, Write, Erase}
use Rattle.nor_device.specs.declared.step.Step.{Step}
use Rattle.nor_device.specs.FlashSize.{IsFlashSize}
use Rattle.partition_table.specs.declared.app.App.TheVariants.{Ota}
use Rattle.boot_run.specs.declared.aims.Aim.{Aim}
use Rattle.boot_run.proofs.FrameLemmas.{stands_inside}
use Rattle.update_steps.specs.Driver.{driver_steps, next_rewrite}
use Rattle.update_steps.proofs.SessionLemmas.{driver_is}
use Rattle.ota_session.proofs.ImageLemmas.{most_steps}
use Rattle.power_cut.specs.Update.{Opens}
use Rattle.duo_run.specs.Worker.{action_steps, worker_steps}
use Rattle.duo_run.proofs.BeginLemmas.{largest}

-- bytes lie in no more pages than they fill, and two
pub few_pages : (at len : ℕ) → pages_in at len ≤ len / 256 + 2
unfolding pages_in
few_pages at len = by (len == 0)
  where
    by : (none : Bool) → (if none then 0 else (at % 256 + len + 255) / 256) ≤ len / 256 + 2
    by true = omega arith
    by false = omega arith

module _ (flash : ℕ) (rows : List Row) (fits : FitsFlash flash rows) where
  -- a write that is not refused lies in the flash
  write_few : (label : List ℕ) (offset : ℕ) (bytes : List ℕ)
      → length (part_write_steps rows label offset bytes) ≤ flash / 256 + 2
  unfolding part_write_steps
  write_few label offset bytes = by (write_checked rows label offset (length bytes)) refl
    where
      by : (found : Result Row PartNo) → write_checked rows label offset (length bytes) ≡ found
          → length (steps_in found (λ row. write_steps (row.offset + offset) bytes)) ≤ flash / 256 + 2
      by (Err why) told = omega arith
      by (Ok row) told =
          let inside = (part_of flash rows label offset (length bytes) row fits
          (write_open rows label offset (length bytes) row told)).inside in
          let count = count_of_write (row.offset + offset) bytes in
          let few = few_pages (row.offset + offset) (length bytes) in
          omega (arith, inside, count, few)

  -- so does an erase
  erase_few : (label : List ℕ) (offset len : ℕ)
      → length (part_erase_steps rows label offset len) ≤ flash / 256 + 2
  unfolding part_erase_steps
  erase_few label offset len = by (erase_checked rows label offset len) refl
    where
      by : (found : Result Row PartNo) → erase_checked rows label offset len ≡ found
          → length (steps_in found (λ row. erase_steps (row.offset + offset) len)) ≤ flash / 256 + 2
      by (Err why) told = omega arith
      by (Ok row) told =
          let inside = (part_of flash rows label offset len row fits
          (erase_open rows label offset len row told).0).inside in
          let count = count_of_erase (row.offset + offset) len in
          omega (arith, inside, count)

  action_few : (action : Action) → length (action_steps rows action) ≤ flash / 256 + 2
  action_few (Fetch at len) = omega arith
  action_few (Mask mask) = omega arith
  action_few (Irq irq) = omega arith
  action_few (Map space page n) = omega arith
  action_few (Unmap at) = omega arith
  action_few (Write label offset bytes) = write_few label.items offset bytes
  action_few (Erase label offset len) = erase_few label.items offset len

  -- the steps of a script
  pub worker_few : IsFlashSize flash → (script : List Action)
      → length (worker_steps rows script) ≤ 2 ^ 25 * length script
  worker_few sized [] = omega arith
  worker_few sized (action ∷ later) =
      let small = largest flash sized in
      let here = action_few action in
      let rest = worker_few sized later in
      let all = length-append (action_steps rows action) (worker_steps rows later) in
      omega (arith, small, here, rest, all)

-- those of an update
pub update_few : (layout : Places) (flash : List ℕ) (aim : Aim) (image : List ℕ)
    → Opens layout flash aim image → IsFlashSize (length flash)
    → length (driver_steps layout aim image) ≤ 2 ^ 26
update_few layout flash aim image opens sized =
    let small = largest (length flash) sized in
    let row = opens.begins.row in
    let inside = stands_inside (length flash) row
    (opens.placed.stands (Ota aim.slot) row opens.begins.row_is) in
    let fits = opens.begins.fits in
    let long = opens.length_is in
    let same = ap (λ (l : List Step). length l)
    (driver_is layout aim image row opens.begins.row_is) in
    let most = most_steps layout.otadata row (next_rewrite aim) image in
    let pages = few_pages row.offset (length image) in
    omega (arith, inside, fits, long, same, most, pages, small)
