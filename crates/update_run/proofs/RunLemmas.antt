-- The update that is made of what it began with.
use Rattle.std.proofs.Common.{◌≡◌, ◌≢◌, ℕ, ◌<◌, ◌≤◌, List, length, Some, Result, Ok, Err, sym, ◌∙◌, subst, arith}
use Rattle.std.specs.Prelude.{IfOk}
use Rattle.nor_device.specs.Ram.{Ram}
use Rattle.crash_images.specs.Cut.{CutDevice}
use Rattle.partition_table.specs.declared.row.Row.{Row}
use Rattle.partition_table.specs.Layout.{Places, layout_in}
use Rattle.boot_select.specs.Boots.{entries_in, images_in}
use Rattle.image_verify.specs.Held.{held}
use Rattle.rollback.specs.declared.rewrite.Rewrite.{Rewrite}
use Rattle.core_script.specs.declared.action.Action.{Action}
use Rattle.flash_steps.specs.Parts.{open_addresses}
use Rattle.boot_run.specs.declared.booted.Booted.{Booted}
use Rattle.boot_run.specs.Booted.{IsBoot}
use Rattle.update_steps.proofs.SessionLemmas.{ShowsNone}
use Rattle.update_steps.proofs.TableLemmas.{table_fits}
use Rattle.power_cut.specs.declared.legs.Upto.TheVariants.{Boot as UptoBoot}
use Rattle.power_cut.specs.declared.outcome.Trial.{Trial}
use Rattle.power_cut.specs.Kept.{MayConfirm}
use Rattle.power_cut.specs.Update.{BootsEither, Opens, session_end, slot_size}
use Rattle.power_cut.specs.Whole.{AreDone, BootsNew, IsTrial}
use Rattle.duo_run.specs.Both.{HasTable}
use Rattle.duo_run.specs.Legs.{MayAffirm}
use Rattle.duo_run.specs.Worker.{worker_steps}
use Rattle.duo_run.proofs.FewStepsLemmas.{update_few, worker_few}
use Rattle.update_run.specs.declared.opening.Opening.{Opening as CodeOpening}
use Rattle.update_run.specs.declared.options.Options.{Options}
use Rattle.update_run.specs.Opening.{AimsIn, IsBegun, Opening, opening_with}
use Rattle.update_run.specs.Options.{AreOptions, IsChosenDevice}
use Rattle.update_run.specs.Legs.{Confirms, Writes}
use Rattle.power_cut.specs.StepCount.{IsCounted, update_count}
use Rattle.update_run.specs.Updating.{IsUpdate, steps_in}
use Rattle.update_run.proofs.CountLemmas.{count_end, trial_counts}
use Rattle.update_run.proofs.EndLemmas.{Chooses, update_ends}
use Rattle.duo_run.proofs.TakenTrials.{apart, taken_installs, taken_trial, theirs}

module _ (rows : List Row) (script : List Action) (driver : ℕ) (layout : Places)
    (first : List ℕ) (has : HasTable rows layout first) where
  -- a confirmation that follows on this flash may be run
  pub may_affirm : (dev : CutDevice Ram) (at : Booted) (write : Rewrite)
      → MayConfirm layout first dev at write → MayAffirm rows layout at write dev
  may_affirm dev at write may = record {
    ready = may.ready;
    table = record {
      size = rw may.size has.size;
      table = rw (may.table, may.size) has.table;
      layout_is = has.layout_is;
    };
    started = may.started;
    confirming = may.confirming;
  }

-- what an update begins with, on a flash with these bytes
abbrev opening_on : List ℕ → List ℕ → CodeOpening → Opening
opening_on flash image o = record {
  flash = flash;
  image = image;
  script = o.script;
  rows = o.table;
  layout = o.layout;
}

-- what an update of this device began with and came to, as its legs tell
pub record IsMadeBy (options : Options) (o : CodeOpening) (image : List ℕ) (dev : CutDevice Ram)
    (t : Trial) : Type 0 where
  pub trial : IsTrial (Writes (opening_with image o) options.driver o.aim dev)
      (Confirms (opening_with image o) options.driver) o.layout dev.inner.bytes o.aim image
      options.upto t
  pub boots : BootsEither o.layout dev.inner.bytes o.aim image t.flash.items
  pub after : IsBoot o.layout (images_in held o.layout t.flash.items)
      (entries_in o.layout t.flash.items) (Some t.after)
  pub installed : options.upto ≢ UptoBoot → AreDone t.legs.items
      → BootsNew o.layout o.aim image t.flash.items

module _ (shown : ShowsNone) (options : Options) (o : CodeOpening) (image : List ℕ)
    (dev : CutDevice Ram) (sound : AreOptions options) (begun : IsBegun image o)
    (fresh : IsChosenDevice options o.flash.items dev) (opens : Opens o.layout o.flash.items o.aim image)
    (few : length o.script ≤ 4096) where
  below : options.driver < 2
  below = let driver = sound.driver in omega (arith, driver)

  chooses : Chooses options.cut options.fail 0 dev
  chooses = record { cut_is = fresh.cut; fail_is = fresh.fail; steps_are = fresh.steps }

  -- the flash of the device is that of the file
  table : HasTable o.table o.layout dev.inner.bytes
  table = subst (HasTable o.table o.layout) (sym fresh.bytes) begun.table

  laid : layout_in dev.inner.bytes ≡ Ok o.layout
  laid = subst (λ bytes. layout_in bytes ≡ Ok o.layout) (sym fresh.bytes) begun.laid

  starts : Opens o.layout dev.inner.bytes o.aim image
  starts = subst (λ bytes. Opens o.layout bytes o.aim image) (sym fresh.bytes) opens

  -- how many steps were begun
  counted : (t : Trial) → IsMadeBy options o image dev t
      → IsCounted options.cut options.fail (steps_in t.legs.items)
      (update_count o.layout o.aim image (worker_steps o.table o.script) options.upto
      dev.inner.bytes)
  counted t made =
      trial_counts shown o.layout o.aim image dev starts (open_addresses o.table)
      (apart o.table o.script options.driver o.layout o.aim image dev table laid starts)
      (worker_steps o.table o.script)
      (theirs o.table o.script options.driver o.layout o.aim image dev table laid starts)
      options.driver below options.cut options.fail sound.one chooses
      (let short = update_few o.layout dev.inner.bytes o.aim image starts table.size in
      omega (arith, short))
      (let most = worker_few (length dev.inner.bytes) o.table
      (table_fits _ (length dev.inner.bytes) o.table table.table) table.size o.script in
      omega (arith, most, few))
      options.upto t
      (taken_trial o.table o.script options.driver o.layout o.aim image dev table laid starts
      options.upto t made.trial)

  -- an update that began, by its legs and by what it left
  pub made_update : (t : Trial) → IsMadeBy options o image dev t
      → IsUpdate options (opening_with image o) t
  made_update t made =
      let whole = session_end (slot_size o.layout o.aim.slot) image in
      let reached = update_ends (opening_on dev.inner.bytes image o) o.aim options.driver
      options.cut options.fail whole options.upto dev made.trial.session t sound.one fresh.cut fresh.fail
      fresh.steps made.trial.written.leg.ran_is made.trial.behind in
      let many = counted t made in
      let is : IsUpdate options (opening_on dev.inner.bytes image o) t = record {
        sound = sound;
        table = table;
        bytes = starts.bytes;
        aim = o.aim;
        aims = subst (λ bytes. AimsIn bytes o.layout (length image) o.aim) (sym fresh.bytes)
            begun.aims;
        device = dev;
        fresh = subst (λ bytes. IsChosenDevice options bytes dev) (sym fresh.bytes) fresh;
        trial = made.trial;
        apart = apart o.table o.script options.driver o.layout o.aim image dev table laid starts;
        ends = reached
            ∙ count_end options.cut options.fail (steps_in t.legs.items)
            (update_count o.layout o.aim image (worker_steps o.table o.script) options.upto
            dev.inner.bytes) whole sound.one many;
        reached = reached;
        counted = many;
        boots = made.boots;
        after = made.after;
        installed = made.installed;
        leaves = λ done. taken_installs o.table o.script options.driver o.layout o.aim image
            dev table laid starts shown below options.upto t made.trial done;
      } in
      subst (λ bytes. IsUpdate options (opening_on bytes image o) t) fresh.bytes is

  -- the same of an answer of the legs
  pub update_of : {E : Type 0} (r : Result Trial E) → IfOk r (IsMadeBy options o image dev)
      → IfOk r (IsUpdate options (opening_with image o))
  update_of (Ok t) made = made_update t made
  update_of (Err why) made = tt

-- an answer of the legs, by its clauses
pub made_by : {E : Type 0} (options : Options) (o : CodeOpening) (image : List ℕ)
    (dev : CutDevice Ram) (r : Result Trial E)
    → IfOk r (λ t. IsTrial (Writes (opening_with image o) options.driver o.aim dev)
    (Confirms (opening_with image o) options.driver) o.layout dev.inner.bytes o.aim image
    options.upto t)
    → IfOk r (λ t. BootsEither o.layout dev.inner.bytes o.aim image t.flash.items)
    → IfOk r (λ t. IsBoot o.layout (images_in held o.layout t.flash.items)
    (entries_in o.layout t.flash.items) (Some t.after))
    → IfOk r (λ t. options.upto ≢ UptoBoot → AreDone t.legs.items
    → BootsNew o.layout o.aim image t.flash.items)
    → IfOk r (IsMadeBy options o image dev)
made_by options o image dev (Ok t) trial boots after installed =
    record { trial = trial; boots = boots; after = after; installed = installed }
made_by options o image dev (Err why) trial boots after installed = tt
