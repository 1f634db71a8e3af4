-- The trial of an update by the steps that each core was to make, and the flash that it leaves
-- where nothing broke off.
use Rattle.std.proofs.Common.{◌≡◌, ◌<◌, ℕ, Bool, true, List, [], ◌∷◌, length, Ok, sym, subst}
use Rattle.std.specs.List.{AllByRecursion}
use Rattle.std.specs.Borrow.{Bor}
use Rattle.nor_device.specs.declared.step.Step.{Step}
use Rattle.nor_device.specs.Ram.{Ram}
use Rattle.crash_images.specs.Cut.{CutDevice}
use Rattle.partition_table.specs.declared.row.Row.{Row}
use Rattle.partition_table.specs.Layout.{IsPlaced, Places, layout_in}
use Rattle.rollback.specs.declared.rewrite.Rewrite.{Rewrite}
use Rattle.boot_run.specs.declared.aims.Aim.{Aim}
use Rattle.boot_run.specs.declared.booted.Booted.{Booted}
use Rattle.boot_run.specs.Rewriting.{rewrite}
use Rattle.core_script.specs.declared.action.Action.{Action}
use Rattle.flash_steps.specs.Parts.{LiesInOpenPart, open_addresses}
use Rattle.flash_steps.proofs.OpenLemmas.{step_open}
use Rattle.update_steps.specs.Beside.{IsApart}
use Rattle.update_steps.specs.Driver.{driver_steps}
use Rattle.update_steps.proofs.ApartLemmas.{flash_apart}
use Rattle.update_steps.proofs.SessionLemmas.{ShowsNone}
use Rattle.update_steps.proofs.TableLemmas.{table_fits}
use Rattle.power_cut.specs.declared.legs.Ran.{Ran}
use Rattle.power_cut.specs.declared.legs.Upto.{Upto}
use Rattle.power_cut.specs.declared.outcome.Trial.{Trial}
use Rattle.power_cut.specs.Installed.{AllLieIn, installed_flash}
use Rattle.power_cut.specs.Kept.{MayConfirm}
use Rattle.power_cut.specs.Update.{Opens}
use Rattle.power_cut.specs.Whole.{AreDone, IsTrial}
use Rattle.power_cut.proofs.InstalledLemmas.{trial_installs}
use Rattle.duo_run.specs.Both.{HasTable}
use Rattle.duo_run.specs.Legs.{IsDuoConfirm, IsDuoSession, ShowsApp}
use Rattle.duo_run.specs.Worker.{worker_steps}
use Rattle.duo_run.proofs.OpenLemmas.{script_inside}
use Rattle.duo_run.proofs.TakenLegs.{AnyMap, TakenConfirm, TakenSession, confirm_taken, session_taken}
use Rattle.duo_run.proofs.TakenLemmas.{HasTaken}
use Rattle.power_cut.proofs.TrialLemmas.{trial_by}

-- steps in partitions that may be changed lie where another core may write
open_lies : (rows : List Row) (steps : List Step) → AllByRecursion (LiesInOpenPart rows) steps
    → AllLieIn (open_addresses rows) true steps
open_lies rows [] all = tt
open_lies rows (step ∷ steps) all = (
  (λ i from to. step_open rows step all.0 i from to),
  open_lies rows steps all.1,
)

module _ (rows : List Row) (script : List Action) (driver : ℕ) (layout : Places) (aim : Aim)
    (image : List ℕ) (old : CutDevice Ram) (has : HasTable rows layout old.inner.bytes)
    (laid : layout_in old.inner.bytes ≡ Ok layout)
    (opens : Opens layout old.inner.bytes aim image) where
  abbrev work : List Step
  work = worker_steps rows script

  abbrev others : ℕ → Bool
  others = open_addresses rows

  pub apart : IsApart layout others
  apart = flash_apart old.inner.bytes rows layout has.table laid

  pub theirs : AllLieIn others true work
  theirs = open_lies rows work (script_inside (length old.inner.bytes) rows script
      (table_fits _ (length old.inner.bytes) rows has.table))

  -- what was booted may be confirmed, so its entry has the steps of a rewrite
  confirmed : (dev : CutDevice Ram) (at : Bor Booted) (write : Bor Rewrite) (ran : Ran)
      → MayConfirm layout old.inner.bytes dev at.now write.now
      → IsDuoConfirm rows script driver layout at.now write.now dev ran
      → TakenConfirm layout others write.now work driver dev ran
  confirmed dev at write ran may is =
      let placed : IsPlaced layout (length dev.inner.bytes) =
      subst (IsPlaced layout) (sym may.size) opens.placed in
      confirm_taken rows script driver (ShowsApp layout at.now.app at.now.info) layout others at.now
      write.now dev ran placed (record {
        sector = write.now.sector;
        active = may.confirming.active;
        is = may.confirming.write_is;
        boots = may.some;
      }) is.leg

  -- the trial of both cores
  pub taken_trial : (upto : Upto) (t : Trial)
      → IsTrial (λ ran. IsDuoSession rows script driver layout aim image old ran)
      (λ dev at write ran. IsDuoConfirm rows script driver layout at.now write.now dev ran) layout
      old.inner.bytes aim image upto t
      → IsTrial (TakenSession layout others aim image work driver old)
      (λ dev at write ran. TakenConfirm layout others write.now work driver dev ran) layout
      old.inner.bytes aim image upto t
  taken_trial upto t trial =
      trial_by (λ dev at write ran. IsDuoConfirm rows script driver layout at.now write.now dev ran)
      (λ dev at write ran. TakenConfirm layout others write.now work driver dev ran) layout
      old.inner.bytes aim image confirmed
      (λ ran. IsDuoSession rows script driver layout aim image old ran)
      (TakenSession layout others aim image work driver old) upto t
      (λ ran is. session_taken rows script driver (ShowsApp layout aim.running aim.info) layout
      others aim image old ran opens is.leg) trial

  -- where all legs are made whole, it leaves the flash of its lists of steps
  pub taken_installs : ShowsNone → driver < 2 → (upto : Upto) (t : Trial)
      → IsTrial (λ ran. IsDuoSession rows script driver layout aim image old ran)
      (λ dev at write ran. IsDuoConfirm rows script driver layout at.now write.now dev ran) layout
      old.inner.bytes aim image upto t
      → AreDone t.legs.items
      → t.flash.items ≡ installed_flash layout aim image work upto old.inner.bytes
  taken_installs shown below upto t trial done =
      trial_installs shown layout aim image old opens others apart work theirs driver below
      (HasTaken (driver_steps layout aim image)) (HasTaken work)
      (λ write. HasTaken (rewrite layout.otadata write)) AnyMap AnyMap
      (TakenSession layout others aim image work driver old)
      (λ dev at write ran. TakenConfirm layout others write.now work driver dev ran)
      (λ ran is. is) (λ dev at write ran is. is) (λ share taken. taken.0)
      (λ write share taken. taken.0) (λ share taken. taken.0) upto t
      (taken_trial upto t trial) done
