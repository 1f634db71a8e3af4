-- The sweep that is made of what it began with, by the legs of both cores.
use Rattle.std.proofs.Common.{◌≡◌, ◌≤◌, ℕ, suc, false, List, [], ◌∷◌, length, Option, Some, None, Result, Ok, Err, refl, sym, ◌∙◌, subst, arith}
use Rattle.std.specs.Prelude.{IfErr, IfOk, codes}
use Rattle.std.specs.Borrow.{Bor}
use Rattle.nor_device.specs.Ram.{Ram}
use Rattle.core_state.specs.Registers.{reset}
use Rattle.crash_images.specs.Agrees.{Agrees}
use Rattle.crash_images.specs.Cut.{CutDevice}
use Rattle.partition_table.specs.declared.row.Row.{Row}
use Rattle.partition_table.specs.Layout.{Places}
use Rattle.rollback.specs.declared.rewrite.Rewrite.{Rewrite}
use Rattle.boot_run.specs.declared.aims.Aim.{Aim}
use Rattle.boot_run.specs.declared.booted.Booted.{Booted}
use Rattle.power_cut.specs.declared.legs.LegEnd.{LegEnd}
use Rattle.power_cut.specs.declared.legs.LegEnd.TheVariants as ends
use Rattle.power_cut.specs.declared.legs.Ran.{Ran}
use Rattle.power_cut.specs.declared.legs.Upto.TheVariants.{Confirm}
use Rattle.power_cut.specs.declared.outcome.Trial.{Trial}
use Rattle.power_cut.specs.declared.swept.Sweep.{Sweep as Swept}
use Rattle.power_cut.specs.declared.swept.SweepNo.{SweepNo}
use Rattle.power_cut.specs.declared.swept.SweepNo.TheVariants.{Refused as RefusedSession, Memory as NoMemory}
use Rattle.core_script.specs.declared.action.Action.{Action}
use Rattle.flash_steps.specs.Parts.{open_addresses}
use Rattle.update_steps.proofs.ApartLemmas.{flash_apart}
use Rattle.update_steps.proofs.SessionLemmas.{ShowsNone}
use Rattle.update_steps.proofs.TableLemmas.{table_fits}
use Rattle.power_cut.specs.Device.{IsWholeEnd}
use Rattle.power_cut.specs.Kept.{MayConfirm}
use Rattle.power_cut.specs.Update.{Opens, session_end, slot_size}
use Rattle.power_cut.specs.Sweep.{AreCutFrom, IsFresh, IsRefused, IsRefusedBy, IsSweep, IsUntouched, IsUpdateOf}
use Rattle.power_cut.specs.Whole.{is_done}
use Rattle.power_cut.proofs.BesideLemmas.{confirm_beside, session_beside}
use Rattle.power_cut.proofs.SweepLemmas.{fresh_ready}
use Rattle.duo_run.specs.Both.{HasTable}
use Rattle.duo_run.specs.Legs.{ConfirmShare, IsDuoConfirm, IsDuoSession, MayInstall, SessionShare, ShowsApp}
use Rattle.duo_run.specs.Worker.{WorkerShare}
use Rattle.duo_run.proofs.FewStepsLemmas.{worker_few}
use Rattle.duo_run.proofs.OpeningLemmas.{table_lays}
use Rattle.update_run.specs.declared.opening.Opening.{Opening as CodeOpening}
use Rattle.update_run.specs.Opening.{IsBegun, Opening, opening_with}
use Rattle.update_run.specs.Legs.{Confirms, Writes}
use Rattle.update_run.specs.Sweeping.{IsRefusedEnd, IsSwept, IsUnswept, IsUnsweptBy}
use Rattle.update_run.proofs.SweepCountLemmas.{IsCountable, cut_ends, same_end, sweep_counts}
use Rattle.power_cut.proofs.TrialLemmas.{trial_by}
use Rattle.update_run.proofs.UpdateLaws.{whole_session}

-- ---- a sweep by other words on its legs

module _ (writes so_writes : CutDevice Ram → Ran → Type 0)
    (confirms so_confirms : CutDevice Ram → Bor Booted → Bor Rewrite → Ran → Type 0)
    (written : (dev : CutDevice Ram) (ran : Ran) → writes dev ran → so_writes dev ran)
    (confirmed : (dev : CutDevice Ram) (at : Bor Booted) (write : Bor Rewrite) (ran : Ran)
    → confirms dev at write ran → so_confirms dev at write ran)
    (layout : Places) (flash : List ℕ) (tear : ℕ) (aim : Aim) (image : List ℕ) where
  update_by : (cut : Option ℕ) (t : Trial)
      → IsUpdateOf writes confirms layout flash tear aim image cut t
      → IsUpdateOf so_writes so_confirms layout flash tear aim image cut t
  update_by cut t update = record {
    dev = update.dev;
    fresh = update.fresh;
    trial = trial_by confirms so_confirms layout flash aim image
        (λ dev at write ran may is. confirmed dev at write ran is) (writes update.dev)
        (so_writes update.dev) Confirm t (written update.dev) update.trial;
    end = update.end;
  }

  cuts_by : (k : ℕ) (after : List Booted)
      → AreCutFrom writes confirms layout flash tear aim image k after
      → AreCutFrom so_writes so_confirms layout flash tear aim image k after
  cuts_by k [] cuts = tt
  cuts_by k (booted ∷ more) cuts =
      let cut = cuts.0 in (
        record {
          t = cut.t;
          update = update_by (Some k) cut.t cut.update;
          after = cut.after;
          boots = cut.boots;
          shows = cut.shows;
        },
        cuts_by (suc k) more cuts.1,
      )

  sweep_by : (s : Swept) → IsSweep writes confirms layout flash tear aim image s
      → IsSweep so_writes so_confirms layout flash tear aim image s
  sweep_by s is = record {
    whole = is.whole;
    update = update_by None is.whole is.update;
    done = is.done;
    installed = is.installed;
    steps = is.steps;
    places = is.places;
    cuts = cuts_by 1 s.after.items is.cuts;
  }

  refused_by : (reason : SweepNo)
      → IsRefusedBy writes confirms layout flash tear aim image reason
      → IsRefusedBy so_writes so_confirms layout flash tear aim image reason
  refused_by (RefusedSession end) is = record {
    t = is.t;
    update = update_by None is.t is.update;
    leg = is.leg;
    only = is.only;
    end_is = is.end_is;
    session = is.session;
    not_done = is.not_done;
  }
  refused_by NoMemory is = tt

-- the same of an answer
pub sweep_with : {E : Type 0} (r : Result Swept E) (layout : Places) (flash : List ℕ) (tear : ℕ)
    (aim : Aim) (image : List ℕ) (writes : CutDevice Ram → Ran → Type 0)
    (confirms : CutDevice Ram → Bor Booted → Bor Rewrite → Ran → Type 0)
    → IfOk r (IsSweep writes confirms layout flash tear aim image)
    → (so_writes : CutDevice Ram → Ran → Type 0)
    → (so_confirms : CutDevice Ram → Bor Booted → Bor Rewrite → Ran → Type 0)
    → ((dev : CutDevice Ram) (ran : Ran) → writes dev ran → so_writes dev ran)
    → ((dev : CutDevice Ram) (at : Bor Booted) (write : Bor Rewrite) (ran : Ran)
    → confirms dev at write ran → so_confirms dev at write ran)
    → IfOk r (IsSweep so_writes so_confirms layout flash tear aim image)
sweep_with (Ok s) layout flash tear aim image writes confirms is so_writes so_confirms written confirmed =
    sweep_by writes so_writes confirms so_confirms written confirmed layout flash tear aim image s is
sweep_with (Err reason) layout flash tear aim image writes confirms is so_writes so_confirms written confirmed = tt

pub refused_with : {T : Type 0} (r : Result T SweepNo) (layout : Places) (flash : List ℕ)
    (tear : ℕ) (aim : Aim) (image : List ℕ) (writes : CutDevice Ram → Ran → Type 0)
    (confirms : CutDevice Ram → Bor Booted → Bor Rewrite → Ran → Type 0)
    → IfErr r (IsRefusedBy writes confirms layout flash tear aim image)
    → (so_writes : CutDevice Ram → Ran → Type 0)
    → (so_confirms : CutDevice Ram → Bor Booted → Bor Rewrite → Ran → Type 0)
    → ((dev : CutDevice Ram) (ran : Ran) → writes dev ran → so_writes dev ran)
    → ((dev : CutDevice Ram) (at : Bor Booted) (write : Bor Rewrite) (ran : Ran)
    → confirms dev at write ran → so_confirms dev at write ran)
    → IfErr r (IsRefusedBy so_writes so_confirms layout flash tear aim image)
refused_with (Ok s) layout flash tear aim image writes confirms is so_writes so_confirms written confirmed = tt
refused_with (Err reason) layout flash tear aim image writes confirms is so_writes so_confirms written confirmed =
    refused_by writes so_writes confirms so_confirms written confirmed layout flash tear aim image reason is

-- a session may be run on each fresh device over the flash
pub may_install : (rows : List Row) (layout : Places) (flash : List ℕ) (aim : Aim)
    (image : List ℕ) (tear : ℕ) (cut : Option ℕ) (dev : CutDevice Ram)
    → HasTable rows layout flash → Opens layout flash aim image → IsFresh flash cut tear dev
    → MayInstall rows layout aim image dev
may_install rows layout flash aim image tear cut dev has opens fresh = record {
  ready = fresh_ready flash cut tear dev fresh;
  table = subst (HasTable rows layout) (sym fresh.bytes) has;
  opens = subst (λ bytes. Opens layout bytes aim image) (sym fresh.bytes) opens;
}

-- it changes no byte beside its slot, the OTA data and the partitions that may be written to
pub install_beside : (rows : List Row) (script : List Action) (driver : ℕ) (layout : Places)
    (flash : List ℕ) (aim : Aim) (image : List ℕ) (tear : ℕ) (cut : Option ℕ)
    (dev : CutDevice Ram) (ran : Ran) → Opens layout flash aim image → IsFresh flash cut tear dev
    → IsDuoSession rows script driver layout aim image dev ran
    → Agrees (IsUntouched layout aim (open_addresses rows)) dev.inner.bytes ran.dev.inner.bytes
install_beside rows script driver layout flash aim image tear cut dev ran opens fresh is =
    session_beside layout aim (open_addresses rows) (SessionShare layout aim image)
    (WorkerShare rows reset script) driver (ShowsApp layout aim.running aim.info) image dev ran
    (subst (λ bytes. Opens layout bytes aim image) (sym fresh.bytes) opens) is.leg

-- and neither does a confirmation
pub affirm_beside : (rows : List Row) (script : List Action) (driver : ℕ) (layout : Places)
    (flash : List ℕ) (aim : Aim) (image : List ℕ) (at : Booted) (write : Rewrite)
    (dev : CutDevice Ram) (ran : Ran) → Opens layout flash aim image
    → MayConfirm layout flash dev at write
    → IsDuoConfirm rows script driver layout at write dev ran
    → Agrees (IsUntouched layout aim (open_addresses rows)) dev.inner.bytes ran.dev.inner.bytes
affirm_beside rows script driver layout flash aim image at write dev ran opens may is =
    confirm_beside layout aim (open_addresses rows) (ConfirmShare layout at write)
    (WorkerShare rows reset script) driver (ShowsApp layout at.app at.info) (length flash) write
    dev ran opens.placed may.confirming is.leg

-- ---- a sweep that began

module _ (tear : ℕ) (o : CodeOpening) (image : List ℕ) (begun : IsBegun image o)
    (flash : List ℕ) (same : flash ≡ o.flash.items) where
  -- its updates may begin, and their steps can be counted
  countable : Opens o.layout o.flash.items o.aim image → length o.script ≤ 4096
      → IsCountable (opening_with image o) o.aim
  countable opens few = record {
    table = begun.table;
    opens = opens;
    few = (let most = worker_few (length o.flash.items) o.table
        (table_fits _ (length o.flash.items) o.table begun.table.table) begun.table.size o.script in
        omega (arith, most, few));
  }

  pub swept_so : {E : Type 0} (r : Result Swept E) → ShowsNone
      → Opens o.layout o.flash.items o.aim image → length o.script ≤ 4096
      → IfOk r (IsSweep (Writes (opening_with image o) 0 o.aim) (Confirms (opening_with image o) 0)
      o.layout flash tear o.aim image)
      → IfOk r (λ s. session_end (slot_size o.layout o.aim.slot) image ≡ ends.Done)
      → IfOk r (IsSwept tear (opening_with image o))
  swept_so (Ok s) shown opens few is whole =
      let begins = opening_with image o in
      let may = countable opens few in
      let sweep = subst (λ bytes. IsSweep (Writes begins 0 o.aim) (Confirms begins 0) o.layout bytes
      tear o.aim image s) same is in
      let steps = sweep_counts begins 0 tear o.aim may shown (omega arith) s sweep in
      record {
        table = begun.table;
        bytes = opens.bytes;
        aim = o.aim;
        aims = begun.aims;
        whole = whole;
        sweep = sweep;
        apart = flash_apart o.flash.items o.table o.layout begun.table.table
            (table_lays o.flash.items o.table o.layout begun.table);
        steps = steps;
        reached = λ k t within u. sym (same_end t.legs.items)
            ∙ cut_ends begins 0 tear o.aim may shown (omega arith) k t u
            (subst (λ n. k ≤ n) steps within);
      }
  swept_so (Err reason) shown opens few is whole = tt

  unswept_by : (reason : SweepNo)
      → IsRefusedBy (Writes (opening_with image o) 0 o.aim) (Confirms (opening_with image o) 0)
      o.layout flash tear o.aim image reason
      → IsUnsweptBy tear (opening_with image o) reason
  unswept_by (RefusedSession end) is = record {
    aim = o.aim;
    aims = begun.aims;
    refused = subst (λ bytes. IsRefused (Writes (opening_with image o) 0 o.aim)
        (Confirms (opening_with image o) 0) o.layout bytes tear o.aim image end) same is;
  }
  unswept_by NoMemory is = tt

  pub unswept_so : {T : Type 0} (r : Result T SweepNo)
      → IfErr r (IsRefusedBy (Writes (opening_with image o) 0 o.aim)
      (Confirms (opening_with image o) 0) o.layout flash tear o.aim image)
      → IfErr r (IsUnsweptBy tear (opening_with image o))
  unswept_so (Ok s) is = tt
  unswept_so (Err reason) is = unswept_by reason is

-- ---- one that is refused

-- a session that is refused ends by its bytes
refused_whole : (end : LegEnd) → IsWholeEnd end → is_done end ≡ false → IsRefusedEnd end
refused_whole ends.Done whole undone = absurd (cc)
refused_whole (ends.Device step) whole undone = whole
refused_whole (ends.Cut step) whole undone = whole
refused_whole (ends.FirstByte byte) whole undone = tt
refused_whole ends.Empty whole undone = tt
refused_whole (ends.Bad why) whole undone = tt

pub unswept_end : (tear : ℕ) (o : Opening) (end : LegEnd) → IsUnswept tear o end
    → IsRefusedEnd end
unswept_end tear o end is =
    refused_whole end (subst IsWholeEnd is.refused.session
    (whole_session (slot_size o.layout is.aim.slot) o.image)) is.refused.not_done
