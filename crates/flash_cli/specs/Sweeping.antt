-- What a sweep comes to: the steps of an update and what boots behind a cut in each of them, or a
-- refusal; its status and its text. It puts no file.
use Rattle.std.specs.Prelude.{◌≡◌, ◌⊎◌, ℕ, List, Option, Result, Ok, Err, string_bytes, codes}
use Rattle.pipe_ends.specs.Store.{Files}
use Rattle.pipe_ends.specs.Sink.{TellsAll, TellsSome}
use Rattle.power_cut.specs.declared.legs.LegEnd.{LegEnd}
use Rattle.power_cut.specs.declared.swept.Sweep.{Sweep as Swept}
use Rattle.flash_text.specs.declared.refusal.Refusal.{Refusal}
use Rattle.flash_text.specs.declared.refusal.Refusal.TheVariants.{Absent as AbsentFile}
use Rattle.flash_text.specs.SweepText.{sweep_text}
use Rattle.flash_cli.specs.declared.error.CommandError.{CommandError}
use Rattle.flash_cli.specs.declared.error.CommandError.TheVariants.{Absent, Refused as RefusedBy, Failed}
use Rattle.flash_cli.specs.declared.error.Failure.TheVariants.{Store, Memory as OutOfMemory}
use Rattle.flash_cli.specs.declared.status.Status.{Status}
use Rattle.flash_cli.specs.declared.status.Status.TheVariants.{Done, Usage, Refused, StoreFault, DeviceFault, PowerCut, Memory, SinkFault}
use Rattle.update_run.specs.Opening.{Opening}
use Rattle.update_run.specs.Sweeping.{IsSwept, IsUnswept}
use Rattle.flash_cli.specs.Answer.{Outcome, refused_outcome, text_only}
use Rattle.flash_cli.specs.Reading.{Absence, Asks, ComesTo, Ended, Reading}
use Rattle.flash_cli.specs.Report.{IsCountedFailure}
use Rattle.flash_cli.specs.SweepWords.{Sweep}
use Rattle.flash_cli.specs.Unbegun.{sweep_opening_or_refusal}
use Rattle.flash_cli.specs.Updating.{status_by}

-- what a sweep reads, and what it begins with, or why it may not begin
abbrev pub sweep_reading : Sweep → Reading (Result Opening Refusal)
sweep_reading s =
    Asks s.flash (λ flash. Asks s.image (λ image. Asks s.script (λ text.
    Ended (sweep_opening_or_refusal flash image text))))

-- the outcome of a sweep that was made
abbrev pub swept_outcome : Swept → Outcome
swept_outcome s = record { status = Done; answer = text_only (sweep_text s) }

-- a sweep that began so was made, and comes to this outcome
pub record ComesSwept (tear : ℕ) (o : Opening) (outcome : Outcome) : Type 0 where
  pub swept : Swept
  pub is : IsSwept tear o swept
  pub outcome_is : outcome ≡ swept_outcome swept

-- or its session was refused, and it comes to the outcome of that
pub record ComesUnswept (tear : ℕ) (o : Opening) (outcome : Outcome) : Type 0 where
  pub end : LegEnd
  pub is : IsUnswept tear o end
  pub why : Refusal
  pub why_is : status_by end ≡ Refused why
  pub outcome_is : outcome ≡ refused_outcome (codes "") why

-- a sweep with this tear number that read this comes to this outcome
abbrev pub SweepComes : ℕ → Result (Result Opening Refusal) Absence → Outcome → Type 0
SweepComes tear (Err absence) outcome =
    outcome ≡ refused_outcome absence.name (AbsentFile absence.file)
SweepComes tear (Ok (Err why)) outcome = outcome ≡ refused_outcome (codes "") why
SweepComes tear (Ok (Ok o)) outcome = ComesSwept tear o outcome ⊎ ComesUnswept tear o outcome

-- A sweep comes to this outcome on the files that it reads, which are the store's where it tells
-- them.
pub record IsSweepOutcome (told : Option Files) (s : Sweep) (outcome : Outcome) : Type 0 where
  pub result : Result (Result Opening Refusal) Absence
  pub comes : ComesTo told 0 (sweep_reading s) result
  pub is : SweepComes s.tear result outcome

-- A sweep ended whole: it has the status of the outcome, and the whole text was pushed.
pub record SweepEndsWhole (told : Option Files) (s : Sweep) (status : Status)
    (before after : Option (List ℕ)) : Type 0 where
  pub outcome : Outcome
  pub comes : IsSweepOutcome told s outcome
  pub ends : status ≡ outcome.status
  pub text : TellsAll before outcome.answer.text after

-- A sweep ended in its text: a first part of it was pushed, which may be none.
pub record SweepEndsInText (told : Option Files) (s : Sweep) (before after : Option (List ℕ))
    : Type 0 where
  pub outcome : Outcome
  pub comes : IsSweepOutcome told s outcome
  pub text : TellsSome before outcome.answer.text after

-- what a call with a sweep told, by its status
abbrev pub SweepTells : Option Files → Sweep → Status → Option (List ℕ) → Option (List ℕ) → Type 0
SweepTells told s Done before after = SweepEndsWhole told s Done before after
SweepTells told s Usage before after = ⊥
SweepTells told s (Refused why) before after = SweepEndsWhole told s (Refused why) before after
SweepTells told s StoreFault before after = after ≡ before
SweepTells told s (DeviceFault step) before after = ⊥
SweepTells told s (PowerCut step) before after = ⊥
SweepTells told s Memory before after = (after ≡ before) ⊎ SweepEndsInText told s before after
SweepTells told s SinkFault before after = SweepEndsInText told s before after

-- how a call with a sweep ends: no file was put, and it told what it came to
pub record SweepEnds (told : Option Files) (s : Sweep) (status : Status) (put : Option Files)
    (before after : Option (List ℕ)) : Type 0 where
  pub unput : put ≡ told
  pub tells : SweepTells told s status before after

-- a sweep was made, or why not
abbrev pub IsSweepEnd : Option Files → Sweep → ℕ → ℕ → Result Swept CommandError → Type 0
IsSweepEnd told s before now (Ok swept) = IsSweepOutcome told s (swept_outcome swept)
IsSweepEnd told s before now (Err (RefusedBy why)) =
    IsSweepOutcome told s (refused_outcome (codes "") why)
IsSweepEnd told s before now (Err (Absent file name)) =
    ComesTo told 0 (sweep_reading s) (Err (record { file = file; name = string_bytes name }))
IsSweepEnd told s before now (Err (Failed failure)) = IsCountedFailure before now failure

-- a sweep with this tear number that begins so, or may not begin, was made, or why not
abbrev pub SweepOf : ℕ → Result Opening Refusal → Result Swept CommandError → Type 0
SweepOf tear begins (Ok swept) = SweepComes tear (Ok begins) (swept_outcome swept)
SweepOf tear begins (Err (RefusedBy why)) =
    SweepComes tear (Ok begins) (refused_outcome (codes "") why)
SweepOf tear begins (Err (Absent file name)) = ⊥
SweepOf tear begins (Err (Failed Store)) = ⊥
SweepOf tear begins (Err (Failed OutOfMemory)) = Unit {0}
