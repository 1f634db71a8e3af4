-- An update in which nothing fails is carried out.
use mathlib.Core.Logic.{inl, inr}
use Rattle.std.proofs.Common.{◌≡◌, ℕ, List, length, Option, Some, None, Ok, refl, ap, ◌∙◌, subst}
use Rattle.pipe_ends.specs.Store.{Files}
use Rattle.boot_run.specs.declared.aims.Aim.{Aim}
use Rattle.power_cut.specs.declared.legs.LegEnd.TheVariants.{Done as DoneEnd}
use Rattle.power_cut.specs.declared.outcome.Trial.{Trial}
use Rattle.flash_cli.specs.declared.status.Status.{Status}
use Rattle.flash_cli.specs.declared.status.Status.TheVariants.{Done, Usage, Refused, StoreFault, DeviceFault, PowerCut, Memory, SinkFault}
use Rattle.update_run.specs.declared.options.Options.{Options}
use Rattle.flash_cli.specs.Answer.{Outcome}
use Rattle.update_run.specs.Opening.{AimsIn, Opening}
use Rattle.flash_cli.specs.Reading.{read_in}
use Rattle.flash_cli.specs.UpdateWords.{Update}
use Rattle.update_run.specs.Updating.{IsUpdate, count_of, last_end}
use Rattle.flash_cli.specs.Updating.{UpdateComes, UpdateEndsWhole, outcome_of_trial, status_by, update_reading}
use Rattle.flash_cli.specs.Installs.{FaultlessUpdateInstalls, IsFitting, IsInstalled, flash_of}
use Rattle.update_run.proofs.EndLemmas.{unbroken_end}
use Rattle.update_run.proofs.DoneLemmas.{all_done}
use Rattle.flash_cli.proofs.OutcomeLemmas.{comes_only}

-- its last leg was made whole
last_done : (u : Update) (o : Opening) (t : Trial) (is : IsUpdate u.options o t)
    → IsFitting u.options o is.aim → last_end t.legs.items ≡ DoneEnd
last_done u o t is fits =
    is.ends
    ∙ unbroken_end u.options.cut u.options.fail (count_of u.options o is.aim) _ fits.cut_ahead
    fits.fail_ahead
    ∙ fits.whole

module _ (files : Files) (u : Update) (o : Opening)
    (read : read_in files 0 (update_reading u) ≡ Ok (Ok o))
    (fits : (aim : Aim) → AimsIn o.flash o.layout (length o.image) aim
    → IsFitting u.options o aim) where
  -- whatever it ended with whole, it was made
  made_so : (status : Status) (trial : Option Trial) (put : Option Files)
      (before after : Option (List ℕ))
      (ends : UpdateEndsWhole (Some files) u trial status put before after)
      → (t : Trial) × (IsUpdate u.options o t × (ends.outcome ≡ outcome_of_trial u t))
  made_so status None put before after ends =
      let one = comes_only files 0 (update_reading u) ends.comes.result ends.comes.comes ∙ read in
      absurd (subst (λ r. UpdateComes u r ends.outcome None) one ends.comes.is)
  made_so status (Some t) put before after ends =
      let one = comes_only files 0 (update_reading u) ends.comes.result ends.comes.comes ∙ read in
      (t, subst (λ r. UpdateComes u r ends.outcome (Some t)) one ends.comes.is)

  -- so it was done
  done_so : (status : Status) (trial : Option Trial) (put : Option Files)
      (before after : Option (List ℕ))
      → UpdateEndsWhole (Some files) u trial status put before after → status ≡ Done
  done_so status trial put before after ends =
      let made = made_so status trial put before after ends in
      let t = made.0 in
      let is = made.1.0 in
      ends.ends
      ∙ ap (λ (outcome : Outcome). outcome.status) made.1.1
      ∙ ap status_by (last_done u o t is (fits is.aim is.aims))

  -- and its flash was put
  installed_so : (trial : Option Trial) (put : Option Files) (before after : Option (List ℕ))
      → UpdateEndsWhole (Some files) u trial Done put before after
      → IsInstalled files u o Done put
  installed_so trial put before after ends =
      let made = made_so Done trial put before after ends in
      let t = made.0 in
      let is = made.1.0 in
      let done = all_done u.options o t is (last_done u o t is (fits is.aim is.aims)) in
      let left : t.flash.items ≡ flash_of u o is.aim = is.leaves done in
      record {
        aim = is.aim;
        aims = is.aims;
        done = refl;
        puts = rw (made.1.1, left) at ends.puts;
        boots = λ upto. rw left at (is.installed upto done);
      }

pub faultless_installs : FaultlessUpdateInstalls
faultless_installs files u o Done trial put before after a b c d read fits ends store sink none quiet =
    inr (installed_so files u o read fits trial put before after ends)
faultless_installs files u o Usage trial put before after a b c d read fits ends store sink none quiet =
    absurd ends
faultless_installs files u o (Refused why) trial put before after a b c d read fits ends store sink none quiet =
    absurd (let is = done_so files u o read fits (Refused why) trial put before after ends in cc)
faultless_installs files u o StoreFault trial put before after a b c d read fits ends store sink none quiet =
    absurd (none (store refl))
faultless_installs files u o (DeviceFault step) trial put before after a b c d read fits ends store sink none quiet =
    absurd (let is = done_so files u o read fits (DeviceFault step) trial put before after ends in cc)
faultless_installs files u o (PowerCut step) trial put before after a b c d read fits ends store sink none quiet =
    absurd (let is = done_so files u o read fits (PowerCut step) trial put before after ends in cc)
faultless_installs files u o Memory trial put before after a b c d read fits ends store sink none quiet =
    inl refl
faultless_installs files u o SinkFault trial put before after a b c d read fits ends store sink none quiet =
    absurd (quiet (sink refl))
