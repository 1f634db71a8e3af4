-- What an update comes to: a trial, the status by its last leg, its text, and the file that is put.
use Rattle.std.specs.Prelude.{◌≡◌, ◌⊎◌, ℕ, List, [], ◌∷◌, Option, Some, None, Result, Ok, Err, string_bytes, codes}
use Rattle.pipe_ends.specs.Store.{Files}
use Rattle.pipe_ends.specs.Sink.{TellsAll, TellsSome}
use Rattle.power_cut.specs.declared.legs.LegEnd.{LegEnd}
use Rattle.power_cut.specs.declared.legs.LegEnd.TheVariants.{Done as DoneEnd, Device, Cut, FirstByte as FirstByteEnd, Empty as EmptyEnd, Bad}
use Rattle.power_cut.specs.declared.outcome.Trial.{Trial}
use Rattle.flash_text.specs.declared.refusal.Refusal.{Refusal}
use Rattle.flash_text.specs.declared.refusal.Refusal.TheVariants.{Absent as AbsentFile, Empty, FirstByte, Image}
use Rattle.flash_text.specs.UpdateText.{update_text}
use Rattle.flash_cli.specs.declared.error.CommandError.{CommandError}
use Rattle.flash_cli.specs.declared.error.CommandError.TheVariants.{Absent, Refused as RefusedBy, Failed}
use Rattle.flash_cli.specs.declared.error.Failure.TheVariants.{Store, Memory as OutOfMemory}
use Rattle.flash_cli.specs.declared.status.Status.{Status}
use Rattle.flash_cli.specs.declared.status.Status.TheVariants.{Done, Usage, Refused, StoreFault, DeviceFault, PowerCut, Memory, SinkFault}
use Rattle.update_run.specs.declared.options.Options.{Options}
use Rattle.update_run.specs.Opening.{Opening}
use Rattle.update_run.specs.Updating.{IsUpdate, last_end}
use Rattle.flash_cli.specs.Answer.{Outcome, TellsPuts, TellsSomePuts, refused_outcome}
use Rattle.flash_cli.specs.Reading.{Absence, Asks, ComesTo, Ended, Reading}
use Rattle.flash_cli.specs.Report.{IsCountedFailure}
use Rattle.flash_cli.specs.Unbegun.{opening_or_refusal}
use Rattle.flash_cli.specs.UpdateWords.{Update}

-- what an update reads, and what it begins with, or why it may not begin
abbrev pub update_reading : Update → Reading (Result Opening Refusal)
update_reading u =
    Asks u.flash (λ flash. Asks u.image (λ image. Asks u.script (λ text.
    Ended (opening_or_refusal flash image text))))

-- the status of an update whose last leg ended so
abbrev pub status_by : LegEnd → Status
status_by DoneEnd = Done
status_by (Device step) = DeviceFault step
status_by (Cut step) = PowerCut step
status_by (FirstByteEnd byte) = Refused (FirstByte byte)
status_by EmptyEnd = Refused Empty
status_by (Bad why) = Refused (Image why)

-- the outcome of an update that came to this trial: the status by its last leg, its text, and the
-- file with its flash
abbrev pub outcome_of_trial : Update → Trial → Outcome
outcome_of_trial u t = record {
  status = status_by (last_end t.legs.items);
  answer = record {
    text = update_text u.options.driver t;
    puts = (u.out, t.flash.items) ∷ [];
  };
}

-- an update that began so comes to this outcome and this trial
abbrev pub TrialComes : Update → Opening → Outcome → Option Trial → Type 0
TrialComes u o outcome None = ⊥
TrialComes u o outcome (Some t) = IsUpdate u.options o t × (outcome ≡ outcome_of_trial u t)

-- so does one that read this: refused, it has no trial
abbrev pub UpdateComes : Update → Result (Result Opening Refusal) Absence → Outcome → Option Trial
    → Type 0
UpdateComes u (Err absence) outcome trial =
    (outcome ≡ refused_outcome absence.name (AbsentFile absence.file)) × (trial ≡ None)
UpdateComes u (Ok (Err why)) outcome trial =
    (outcome ≡ refused_outcome (codes "") why) × (trial ≡ None)
UpdateComes u (Ok (Ok o)) outcome trial = TrialComes u o outcome trial

-- An update comes to this outcome and this trial on the files that it reads, which are the store's
-- where it tells them.
pub record IsUpdated (told : Option Files) (u : Update) (outcome : Outcome) (trial : Option Trial)
    : Type 0 where
  pub result : Result (Result Opening Refusal) Absence
  pub comes : ComesTo told 0 (update_reading u) result
  pub is : UpdateComes u result outcome trial

-- An update ended whole: it has the status of the outcome, the file was put, and the whole text was
-- pushed.
pub record UpdateEndsWhole (told : Option Files) (u : Update) (trial : Option Trial)
    (status : Status) (put : Option Files) (before after : Option (List ℕ)) : Type 0 where
  pub outcome : Outcome
  pub comes : IsUpdated told u outcome trial
  pub ends : status ≡ outcome.status
  pub puts : TellsPuts told outcome.answer.puts put
  pub text : TellsAll before outcome.answer.text after

-- An update ended before its text: the file was put, or not, and nothing was pushed.
pub record UpdateEndsBeforeText (told : Option Files) (u : Update) (trial : Option Trial)
    (put : Option Files) (before after : Option (List ℕ)) : Type 0 where
  pub outcome : Outcome
  pub comes : IsUpdated told u outcome trial
  pub puts : TellsSomePuts told outcome.answer.puts put
  pub silent : after ≡ before

-- An update ended in its text: the file was put, and a first part of the text was pushed, which may
-- be none.
pub record UpdateEndsInText (told : Option Files) (u : Update) (trial : Option Trial)
    (put : Option Files) (before after : Option (List ℕ)) : Type 0 where
  pub outcome : Outcome
  pub comes : IsUpdated told u outcome trial
  pub puts : TellsPuts told outcome.answer.puts put
  pub text : TellsSome before outcome.answer.text after

-- An update ended before it was made: it has no trial, and nothing was put or pushed.
pub record UpdateIsUnmade (told : Option Files) (trial : Option Trial) (put : Option Files)
    (before after : Option (List ℕ)) : Type 0 where
  pub none : trial ≡ None
  pub unput : put ≡ told
  pub silent : after ≡ before

-- how a call with an update ends, by its status
abbrev pub UpdateEnds : Option Files → Update → Status → Option Trial → Option Files
    → Option (List ℕ) → Option (List ℕ) → Type 0
UpdateEnds told u Done trial put before after =
    UpdateEndsWhole told u trial Done put before after
UpdateEnds told u Usage trial put before after = ⊥
UpdateEnds told u (Refused why) trial put before after =
    UpdateEndsWhole told u trial (Refused why) put before after
UpdateEnds told u StoreFault trial put before after =
    UpdateIsUnmade told trial put before after
    ⊎ UpdateEndsBeforeText told u trial put before after
UpdateEnds told u (DeviceFault step) trial put before after =
    UpdateEndsWhole told u trial (DeviceFault step) put before after
UpdateEnds told u (PowerCut step) trial put before after =
    UpdateEndsWhole told u trial (PowerCut step) put before after
UpdateEnds told u Memory trial put before after =
    UpdateIsUnmade told trial put before after
    ⊎ (UpdateEndsBeforeText told u trial put before after
    ⊎ UpdateEndsInText told u trial put before after)
UpdateEnds told u SinkFault trial put before after =
    UpdateEndsInText told u trial put before after

-- an update was made, on files of which this is told
pub record IsUpdateMade (told : Option Files) (u : Update) (t : Trial) : Type 0 where
  pub o : Opening
  pub comes : ComesTo told 0 (update_reading u) (Ok (Ok o))
  pub is : IsUpdate u.options o t

-- an update was made, or why not
abbrev pub IsUpdateEnd : Option Files → Update → ℕ → ℕ → Result Trial CommandError → Type 0
IsUpdateEnd told u before now (Ok t) = IsUpdateMade told u t
IsUpdateEnd told u before now (Err (RefusedBy why)) =
    ComesTo told 0 (update_reading u) (Ok (Err why))
IsUpdateEnd told u before now (Err (Absent file name)) =
    ComesTo told 0 (update_reading u) (Err (record { file = file; name = string_bytes name }))
IsUpdateEnd told u before now (Err (Failed failure)) = IsCountedFailure before now failure

-- an update of these files was made, or why not
abbrev pub UpdateOf : List ℕ → List ℕ → List ℕ → Options → Result Trial CommandError → Type 0
UpdateOf flash image text options (Ok t) =
    (o : Opening) × (opening_or_refusal flash image text ≡ Ok o) × IsUpdate options o t
UpdateOf flash image text options (Err (RefusedBy why)) = opening_or_refusal flash image text ≡ Err why
UpdateOf flash image text options (Err (Absent file name)) = ⊥
UpdateOf flash image text options (Err (Failed Store)) = ⊥
UpdateOf flash image text options (Err (Failed OutOfMemory)) = Unit {0}
