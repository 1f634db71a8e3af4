-- What may not begin is refused, and a sweep in which nothing fails is carried out.
use mathlib.Core.Logic.{inl, inr}
use Rattle.std.proofs.Common.{◌≡◌, ◌⊎◌, ℕ, Bool, true, false, List, [], length, Option, Some, None, Result, Ok, Err, refl, sym, ap, ◌∙◌, subst}
use Rattle.pipe_ends.specs.Store.{Files}
use Rattle.pipe_ends.specs.Sink.{TellsAll}
use Rattle.boot_run.specs.declared.aims.Aim.{Aim}
use Rattle.power_cut.specs.declared.legs.LegEnd.{LegEnd}
use Rattle.power_cut.specs.declared.legs.LegEnd.TheVariants.{Done as DoneEnd}
use Rattle.power_cut.specs.declared.outcome.Trial.{Trial}
use Rattle.power_cut.specs.Update.{session_end, slot_size}
use Rattle.power_cut.specs.Whole.{is_done}
use Rattle.flash_text.specs.declared.refusal.Refusal.{Refusal}
use Rattle.flash_cli.specs.declared.status.Status.{Status}
use Rattle.flash_cli.specs.declared.status.Status.TheVariants.{Done, Usage, Refused, StoreFault, DeviceFault, PowerCut, Memory, SinkFault}
use Rattle.flash_cli.specs.Answer.{Outcome, TellsPuts, refused_outcome}
use Rattle.flash_cli.specs.Installs.{FaultlessSweepIsMade, IsRefusedFor, IsSweepMade, RefusedSweepIsRefused, RefusedUpdateIsRefused, RefusesFor}
use Rattle.update_run.specs.Opening.{AimsIn, Opening}
use Rattle.flash_cli.specs.Reading.{Absence, read_in}
use Rattle.flash_cli.specs.SweepWords.{Sweep}
use Rattle.flash_cli.specs.Sweeping.{IsSweepOutcome, SweepComes, SweepEnds, SweepEndsWhole, sweep_reading, swept_outcome}
use Rattle.flash_cli.specs.UpdateWords.{Update}
use Rattle.flash_cli.specs.Updating.{UpdateComes, UpdateEndsWhole, update_reading}
use Rattle.flash_cli.proofs.OutcomeLemmas.{comes_only}

-- ---- what may not begin

-- the outcome is that of the refusal
update_refuses : (u : Update) (read : Result (Result Opening Refusal) Absence) (name : List ℕ)
    (why : Refusal) (outcome : Outcome) (trial : Option Trial) → RefusesFor read name why
    → UpdateComes u read outcome trial → (outcome ≡ refused_outcome name why) × (trial ≡ None)
update_refuses u (Err absence) name why outcome trial refuses comes = (rw (refuses.0, refuses.1) comes.0, comes.1)
update_refuses u (Ok (Err reason)) name why outcome trial refuses comes = (rw (refuses.0, refuses.1) comes.0, comes.1)
update_refuses u (Ok (Ok o)) name why outcome trial refuses comes = absurd refuses

sweep_refuses : (tear : ℕ) (read : Result (Result Opening Refusal) Absence) (name : List ℕ)
    (why : Refusal) (outcome : Outcome) → RefusesFor read name why
    → SweepComes tear read outcome → outcome ≡ refused_outcome name why
sweep_refuses tear (Err absence) name why outcome refuses comes = rw (refuses.0, refuses.1) comes
sweep_refuses tear (Ok (Err reason)) name why outcome refuses comes = rw (refuses.0, refuses.1) comes
sweep_refuses tear (Ok (Ok o)) name why outcome refuses comes = absurd refuses

-- a call that ends with this outcome was refused
refused_so : (files : Files) (name : List ℕ) (why : Refusal) (outcome : Outcome) (status : Status)
    (put : Option Files) (before after : Option (List ℕ)) → outcome ≡ refused_outcome name why
    → status ≡ outcome.status → TellsPuts (Some files) outcome.answer.puts put
    → TellsAll before outcome.answer.text after
    → IsRefusedFor files name why status put before after
refused_so files name why outcome status put before after is ends puts text = record {
  refused = ends ∙ ap (λ (o : Outcome). o.status) is;
  unput = subst (λ (o : Outcome). TellsPuts (Some files) o.answer.puts put) is puts;
  text = subst (λ (o : Outcome). TellsAll before o.answer.text after) is text;
}

module _ (files : Files) (u : Update) (read : Result (Result Opening Refusal) Absence)
    (name : List ℕ) (why : Refusal) (is : read_in files 0 (update_reading u) ≡ read)
    (refuses : RefusesFor read name why) where
  update_refused : (status : Status) (trial : Option Trial) (put : Option Files)
      (before after : Option (List ℕ))
      → UpdateEndsWhole (Some files) u trial status put before after
      → (trial ≡ None) × IsRefusedFor files name why status put before after
  update_refused status trial put before after ends =
      let one = comes_only files 0 (update_reading u) ends.comes.result ends.comes.comes ∙ is in
      let outcome = update_refuses u read name why ends.outcome trial refuses
      (subst (λ r. UpdateComes u r ends.outcome trial) one ends.comes.is) in
      (outcome.1, refused_so files name why ends.outcome status put before after outcome.0 ends.ends ends.puts ends.text)

pub refused_update : RefusedUpdateIsRefused
refused_update files u read name why Done trial put before after a b c d is refuses ends store sink none quiet =
    inr (update_refused files u read name why is refuses Done trial put before after ends)
refused_update files u read name why Usage trial put before after a b c d is refuses ends store sink none quiet =
    absurd ends
refused_update files u read name why (Refused other) trial put before after a b c d is refuses ends store sink none quiet =
    inr (update_refused files u read name why is refuses (Refused other) trial put before after ends)
refused_update files u read name why StoreFault trial put before after a b c d is refuses ends store sink none quiet =
    absurd (none (store refl))
refused_update files u read name why (DeviceFault step) trial put before after a b c d is refuses ends store sink none quiet =
    inr (update_refused files u read name why is refuses (DeviceFault step) trial put before after ends)
refused_update files u read name why (PowerCut step) trial put before after a b c d is refuses ends store sink none quiet =
    inr (update_refused files u read name why is refuses (PowerCut step) trial put before after ends)
refused_update files u read name why Memory trial put before after a b c d is refuses ends store sink none quiet =
    inl refl
refused_update files u read name why SinkFault trial put before after a b c d is refuses ends store sink none quiet =
    absurd (quiet (sink refl))

module _ (files : Files) (s : Sweep) (read : Result (Result Opening Refusal) Absence)
    (name : List ℕ) (why : Refusal) (is : read_in files 0 (sweep_reading s) ≡ read)
    (refuses : RefusesFor read name why) where
  sweep_refused : (status : Status) (put : Option Files) (before after : Option (List ℕ))
      → put ≡ Some files → SweepEndsWhole (Some files) s status before after
      → IsRefusedFor files name why status put before after
  sweep_refused status put before after unput ends =
      let one = comes_only files 0 (sweep_reading s) ends.comes.result ends.comes.comes ∙ is in
      let outcome : ends.outcome ≡ refused_outcome name why =
      sweep_refuses s.tear read name why ends.outcome refuses
      (subst (λ r. SweepComes s.tear r ends.outcome) one ends.comes.is) in
      record {
        refused = ends.ends ∙ ap (λ (o : Outcome). o.status) outcome;
        unput = unput;
        text = subst (λ (o : Outcome). TellsAll before o.answer.text after) outcome ends.text;
      }

pub refused_sweep : RefusedSweepIsRefused
refused_sweep files s read name why Done put before after a b c d is refuses ends store sink none quiet =
    inr (sweep_refused files s read name why is refuses Done put before after ends.unput ends.tells)
refused_sweep files s read name why Usage put before after a b c d is refuses ends store sink none quiet =
    absurd ends.tells
refused_sweep files s read name why (Refused other) put before after a b c d is refuses ends store sink none quiet =
    inr (sweep_refused files s read name why is refuses (Refused other) put before after ends.unput ends.tells)
refused_sweep files s read name why StoreFault put before after a b c d is refuses ends store sink none quiet =
    absurd (none (store refl))
refused_sweep files s read name why (DeviceFault step) put before after a b c d is refuses ends store sink none quiet =
    absurd ends.tells
refused_sweep files s read name why (PowerCut step) put before after a b c d is refuses ends store sink none quiet =
    absurd ends.tells
refused_sweep files s read name why Memory put before after a b c d is refuses ends store sink none quiet =
    inl refl
refused_sweep files s read name why SinkFault put before after a b c d is refuses ends store sink none quiet =
    absurd (quiet (sink refl))

-- ---- a sweep that is carried out

module _ (files : Files) (s : Sweep) (o : Opening)
    (read : read_in files 0 (sweep_reading s) ≡ Ok (Ok o))
    (fits : (aim : Aim) → AimsIn o.flash o.layout (length o.image) aim
    → session_end (slot_size o.layout aim.slot) o.image ≡ DoneEnd) where
  -- whatever it ended with whole, it was made
  sweep_made : (status : Status) (before after : Option (List ℕ))
      → SweepEndsWhole (Some files) s status before after → IsSweepMade s o status before after
  sweep_made status before after ends =
      let one = comes_only files 0 (sweep_reading s) ends.comes.result ends.comes.comes ∙ read in
      elim (subst (λ r. SweepComes s.tear r ends.outcome) one ends.comes.is) [
        | inl made ↦ record {
          done = ends.ends ∙ ap (λ (x : Outcome). x.status) made.outcome_is;
          swept = made.swept;
          is = made.is;
          text = subst (λ (x : Outcome). TellsAll before x.answer.text after) made.outcome_is
              ends.text;
        }
        | inr unmade ↦ absurd
            (let done : is_done unmade.end ≡ true =
            ap is_done (sym unmade.is.refused.session ∙ fits unmade.is.aim unmade.is.aims) in
            let undone = unmade.is.refused.not_done in cc)
      ]

pub faultless_sweep : FaultlessSweepIsMade
faultless_sweep files s o Done put before after a b c d read fits ends store sink none quiet =
    inr (sweep_made files s o read fits Done before after ends.tells)
faultless_sweep files s o Usage put before after a b c d read fits ends store sink none quiet =
    absurd ends.tells
faultless_sweep files s o (Refused why) put before after a b c d read fits ends store sink none quiet =
    inr (sweep_made files s o read fits (Refused why) before after ends.tells)
faultless_sweep files s o StoreFault put before after a b c d read fits ends store sink none quiet =
    absurd (none (store refl))
faultless_sweep files s o (DeviceFault step) put before after a b c d read fits ends store sink none quiet =
    absurd ends.tells
faultless_sweep files s o (PowerCut step) put before after a b c d read fits ends store sink none quiet =
    absurd ends.tells
faultless_sweep files s o Memory put before after a b c d read fits ends store sink none quiet =
    inl refl
faultless_sweep files s o SinkFault put before after a b c d read fits ends store sink none quiet =
    absurd (quiet (sink refl))
