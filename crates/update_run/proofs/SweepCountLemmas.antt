-- How many steps the updates of a sweep begin, and how one ends whose power is cut in a step that it
-- has.
use Rattle.std.proofs.Common.{◌≡◌, inr, ℕ, ◌+◌, ◌^◌, ◌<◌, ◌≤◌, List, [], ◌∷◌, length, Option, Some, None, Ok, refl, sym, ap, ◌∙◌, subst, arith}
use Rattle.nor_device.specs.declared.step.Step.{Step}
use Rattle.nor_device.specs.Ram.{Ram}
use Rattle.crash_images.specs.Cut.{CutDevice, IsAhead}
use Rattle.partition_table.specs.Layout.{layout_in}
use Rattle.boot_run.specs.declared.aims.Aim.{Aim}
use Rattle.flash_steps.specs.Parts.{open_addresses}
use Rattle.update_steps.specs.Driver.{driver_steps}
use Rattle.update_steps.proofs.SessionLemmas.{ShowsNone}
use Rattle.power_cut.specs.declared.legs.Leg.{Leg}
use Rattle.power_cut.specs.declared.legs.LegEnd.{LegEnd}
use Rattle.power_cut.specs.declared.legs.LegEnd.TheVariants.{Done, Device, Cut, FirstByte, Empty, Bad}
use Rattle.power_cut.specs.declared.legs.Upto.TheVariants.{Confirm}
use Rattle.power_cut.specs.declared.outcome.Trial.{Trial}
use Rattle.power_cut.specs.declared.swept.Sweep.{Sweep as Swept}
use Rattle.power_cut.specs.Device.{HasEnd}
use Rattle.power_cut.specs.Sweep.{IsSweep}
use Rattle.power_cut.specs.Update.{Opens}
use Rattle.power_cut.specs.Whole.{IsTrial, total_steps}
use Rattle.power_cut.specs.Whole as power
use Rattle.duo_run.specs.Both.{HasTable}
use Rattle.duo_run.specs.Worker.{worker_steps}
use Rattle.duo_run.proofs.FewStepsLemmas.{update_few}
use Rattle.duo_run.proofs.OpeningLemmas.{table_lays}
use Rattle.update_run.specs.Legs.{Confirms, Writes}
use Rattle.update_run.specs.Opening.{Opening}
use Rattle.power_cut.specs.StepCount.{IsCounted, update_count}
use Rattle.update_run.specs.Sweeping.{IsSweptUpdate, sweep_count}
use Rattle.update_run.specs.Updating.{last_end, steps_in}
use Rattle.update_run.proofs.CountLemmas.{trial_counts}
use Rattle.update_run.proofs.EndLemmas.{Chooses}
use Rattle.duo_run.proofs.TakenTrials.{apart, taken_trial, theirs}

-- the steps of legs, in the words of both crates
same_total : (legs : List Leg) → steps_in legs ≡ total_steps legs
same_total [] = refl
same_total (leg ∷ legs) = ap (λ n. leg.steps + n) (same_total legs)

-- how the last leg ended, in the words of both crates
pub same_end : (legs : List Leg) → power.last_end Done legs ≡ last_end legs
same_end [] = refl
same_end (leg ∷ []) = refl
same_end (leg ∷ next ∷ legs) = same_end (next ∷ legs)

-- an update ends with a cut in step k where the power is to go off there, and it does not end
-- before that step
ends_cut : (dev : CutDevice Ram) (now k : ℕ) (end : LegEnd) → dev.cut ≡ Some k → dev.fail ≡ None
    → (IsAhead dev.cut now → ⊥) → HasEnd dev now end end → end ≡ Cut k
ends_cut dev now k Done cut fail never has = absurd (never has.0.cut_ahead)
ends_cut dev now k Empty cut fail never has = absurd (never has.0.cut_ahead)
ends_cut dev now k (FirstByte byte) cut fail never has = absurd (never has.0.cut_ahead)
ends_cut dev now k (Bad why) cut fail never has = absurd (never has.0.cut_ahead)
ends_cut dev now k (Cut j) cut fail never has =
    let same : j ≡ k = (let e = has.chosen_is in cc) in ap Cut same
ends_cut dev now k (Device j) cut fail never has = absurd (let e = has.chosen_is in cc)

-- the updates of a sweep may begin so, with this aim, and the other core makes no more steps than a
-- device can count
pub record IsCountable (o : Opening) (aim : Aim) : Type 0 where
  pub table : HasTable o.rows o.layout o.flash
  pub opens : Opens o.layout o.flash aim o.image
  pub few : length (worker_steps o.rows o.script) ≤ 2 ^ 40

-- one of them on its own device
pub record IsStarted (o : Opening) (driver : ℕ) (aim : Aim) (cut : Option ℕ) (dev : CutDevice Ram)
    (t : Trial) : Type 0 where
  pub table : HasTable o.rows o.layout dev.inner.bytes
  pub laid : layout_in dev.inner.bytes ≡ Ok o.layout
  pub opens : Opens o.layout dev.inner.bytes aim o.image
  pub chooses : Chooses cut None 0 dev
  pub short : length (driver_steps o.layout aim o.image) ≤ 2 ^ 40
  pub trial : IsTrial (Writes o driver aim dev) (Confirms o driver) o.layout dev.inner.bytes aim
      o.image Confirm t

module _ (o : Opening) (driver tear : ℕ) (aim : Aim) (may : IsCountable o aim) where
  pub started : (cut : Option ℕ) (t : Trial) → (u : IsSweptUpdate o driver tear aim cut t)
      → IsStarted o driver aim cut u.dev t
  started cut t u =
      let back : o.flash ≡ u.dev.inner.bytes = sym u.fresh.bytes in
      let table = subst (HasTable o.rows o.layout) back may.table in
      let opens = subst (λ (f : List ℕ). Opens o.layout f aim o.image) back may.opens in
      record {
        table = table;
        laid = table_lays u.dev.inner.bytes o.rows o.layout table;
        opens = opens;
        chooses = record {
          cut_is = ap (λ (d : CutDevice Ram). d.cut) u.fresh.same;
          fail_is = ap (λ (d : CutDevice Ram). d.fail) u.fresh.same;
          steps_are = ap (λ (d : CutDevice Ram). d.steps) u.fresh.same;
        };
        short = (let few = update_few o.layout u.dev.inner.bytes aim o.image opens table.size in
            omega (arith, few));
        trial = subst (λ (f : List ℕ).
            IsTrial (Writes o driver aim u.dev) (Confirms o driver) o.layout f aim o.image Confirm t)
            back u.trial;
      }

  module _ (shown : ShowsNone) (below : driver < 2) where
    abbrev work : List Step
    work = worker_steps o.rows o.script

    -- each of them begins no more than the files give, and all where its step was not begun
    counted : (cut : Option ℕ) (t : Trial) → IsSweptUpdate o driver tear aim cut t
        → IsCounted cut None (total_steps t.legs.items) (sweep_count o aim)
    counted cut t u =
        let dev = u.dev in
        let here = started cut t u in
        let many : IsCounted cut None (steps_in t.legs.items)
        (update_count o.layout aim o.image work Confirm dev.inner.bytes) =
        trial_counts shown o.layout aim o.image dev here.opens (open_addresses o.rows)
        (apart o.rows o.script driver o.layout aim o.image dev here.table here.laid here.opens) work
        (theirs o.rows o.script driver o.layout aim o.image dev here.table here.laid here.opens)
        driver below cut None (inr refl) here.chooses here.short may.few Confirm t
        (taken_trial o.rows o.script driver o.layout aim o.image dev here.table here.laid here.opens
        Confirm t here.trial) in
        subst (λ n. IsCounted cut None n (sweep_count o aim)) (same_total t.legs.items)
        (subst (λ (f : List ℕ). IsCounted cut None (steps_in t.legs.items)
        (update_count o.layout aim o.image work Confirm f)) u.fresh.bytes many)

    -- so the one that is cut in a step that the files give ends there
    pub cut_ends : (k : ℕ) (t : Trial) → IsSweptUpdate o driver tear aim (Some k) t
        → k ≤ sweep_count o aim → power.last_end Done t.legs.items ≡ Cut k
    cut_ends k t u within =
        let chooses = (started (Some k) t u).chooses in
        let now = u.dev.steps + total_steps t.legs.items in
        let fresh = chooses.steps_are in
        ends_cut u.dev now k (power.last_end Done t.legs.items) chooses.cut_is chooses.fail_is
        (λ ahead.
        let less : now < k = subst (λ (c : Option ℕ). IsAhead c now) chooses.cut_is ahead in
        let all = (counted (Some k) t u).all (omega (arith, less, fresh)) tt in
        omega (arith, less, fresh, all, within))
        u.end

    -- and a sweep has as many steps as the files give
    pub sweep_counts : (s : Swept)
        → IsSweep (Writes o driver aim) (Confirms o driver) o.layout o.flash tear aim o.image s
        → s.steps ≡ sweep_count o aim
    sweep_counts s is = is.steps ∙ (counted None is.whole is.update).all tt tt
