-- What an update and a sweep come to where nothing fails: carried out, or refused.
use Rattle.std.specs.Prelude.{◌≡◌, ◌≢◌, ◌⊎◌, ℕ, List, length, Option, Some, None, Result, Ok, Err, codes}
use Rattle.std.specs.FinMap.{insert}
use Rattle.crash_images.specs.Cut.{IsAhead}
use Rattle.pipe_ends.specs.Fault.{Rose}
use Rattle.pipe_ends.specs.Store.{Files}
use Rattle.pipe_ends.specs.Sink.{TellsAll}
use Rattle.boot_run.specs.declared.aims.Aim.{Aim}
use Rattle.power_cut.specs.declared.legs.LegEnd.TheVariants.{Done as DoneEnd}
use Rattle.power_cut.specs.declared.legs.Upto.TheVariants.{Boot as UptoBoot}
use Rattle.power_cut.specs.declared.outcome.Trial.{Trial}
use Rattle.power_cut.specs.declared.swept.Sweep.{Sweep as Swept}
use Rattle.power_cut.specs.Installed.{installed_flash}
use Rattle.power_cut.specs.Update.{session_end, slot_size}
use Rattle.power_cut.specs.Whole.{BootsNew}
use Rattle.duo_run.specs.Worker.{worker_steps}
use Rattle.flash_text.specs.declared.refusal.Refusal.{Refusal}
use Rattle.flash_text.specs.declared.refusal.Refusal.TheVariants.{Absent as AbsentFile}
use Rattle.flash_text.specs.SweepText.{sweep_text}
use Rattle.flash_text.specs.Text.{refusal_line}
use Rattle.flash_cli.specs.declared.status.Status.{Status}
use Rattle.flash_cli.specs.declared.status.Status.TheVariants.{Done, Refused, StoreFault, Memory, SinkFault}
use Rattle.update_run.specs.declared.options.Options.{Options}
use Rattle.update_run.specs.Opening.{AimsIn, Opening}
use Rattle.flash_cli.specs.Reading.{Absence, read_in}
use Rattle.flash_cli.specs.SweepWords.{Sweep}
use Rattle.update_run.specs.Sweeping.{IsSwept}
use Rattle.flash_cli.specs.Sweeping.{SweepEnds, sweep_reading}
use Rattle.flash_cli.specs.UpdateWords.{Update}
use Rattle.flash_cli.specs.Updating.{UpdateEnds, update_reading}
use Rattle.update_run.specs.Updating.{count_of}

-- the image is whole within the slot that is aimed at, and none of the steps of the update was chosen
-- to end badly
pub record IsFitting (options : Options) (o : Opening) (aim : Aim) : Type 0 where
  pub whole : session_end (slot_size o.layout aim.slot) o.image ≡ DoneEnd
  pub cut_ahead : IsAhead options.cut (count_of options o aim)
  pub fail_ahead : IsAhead options.fail (count_of options o aim)

-- the flash of the files and the words
abbrev pub flash_of : Update → Opening → Aim → List ℕ
flash_of u o aim =
    installed_flash o.layout aim o.image (worker_steps o.rows o.script) u.options.upto o.flash

-- an update that began so was carried out: this flash was put, no other file was, and it boots the
-- new application
pub record IsInstalled (files : Files) (u : Update) (o : Opening) (status : Status)
    (put : Option Files) : Type 0 where
  pub aim : Aim
  pub aims : AimsIn o.flash o.layout (length o.image) aim
  pub done : status ≡ Done
  pub puts : put ≡ Some (insert files u.out (flash_of u o aim))
  pub boots : u.options.upto ≢ UptoBoot → BootsNew o.layout aim o.image (flash_of u o aim)

-- an update whose files are told and refuse nothing, whose image fits, and in which neither count of
-- faults rose, was carried out, unless memory ran out
abbrev pub FaultlessUpdateInstalls : Type 0
FaultlessUpdateInstalls = (files : Files) (u : Update) (o : Opening) (status : Status)
    (trial : Option Trial) (put : Option Files) (before after : Option (List ℕ))
    (stores_before stores_now sinks_before sinks_now : ℕ)
    → read_in files 0 (update_reading u) ≡ Ok (Ok o)
    → ((aim : Aim) → AimsIn o.flash o.layout (length o.image) aim → IsFitting u.options o aim)
    → UpdateEnds (Some files) u status trial put before after
    → (status ≡ StoreFault → Rose stores_before stores_now)
    → (status ≡ SinkFault → Rose sinks_before sinks_now)
    → (Rose stores_before stores_now → ⊥) → (Rose sinks_before sinks_now → ⊥)
    → (status ≡ Memory) ⊎ IsInstalled files u o status put

-- a sweep that began so was carried out: its text was pushed
pub record IsSweepMade (s : Sweep) (o : Opening) (status : Status) (before after : Option (List ℕ))
    : Type 0 where
  pub done : status ≡ Done
  pub swept : Swept
  pub is : IsSwept s.tear o swept
  pub text : TellsAll before (sweep_text swept) after

-- a sweep whose files are told and refuse nothing, whose image is whole within the slot that is aimed
-- at, and in which neither count of faults rose, was carried out, unless memory ran out
abbrev pub FaultlessSweepIsMade : Type 0
FaultlessSweepIsMade = (files : Files) (s : Sweep) (o : Opening) (status : Status)
    (put : Option Files) (before after : Option (List ℕ))
    (stores_before stores_now sinks_before sinks_now : ℕ)
    → read_in files 0 (sweep_reading s) ≡ Ok (Ok o)
    → ((aim : Aim) → AimsIn o.flash o.layout (length o.image) aim
    → session_end (slot_size o.layout aim.slot) o.image ≡ DoneEnd)
    → SweepEnds (Some files) s status put before after
    → (status ≡ StoreFault → Rose stores_before stores_now)
    → (status ≡ SinkFault → Rose sinks_before sinks_now)
    → (Rose stores_before stores_now → ⊥) → (Rose sinks_before sinks_now → ⊥)
    → (status ≡ Memory) ⊎ IsSweepMade s o status before after

-- what was read may not begin for this reason: a file of this name is absent, or the files refuse it
abbrev pub RefusesFor : Result (Result Opening Refusal) Absence → List ℕ → Refusal → Type 0
RefusesFor (Err absence) name why = (name ≡ absence.name) × (why ≡ AbsentFile absence.file)
RefusesFor (Ok (Err reason)) name why = (name ≡ codes "") × (why ≡ reason)
RefusesFor (Ok (Ok o)) name why = ⊥

-- a call was refused for this reason: no file was put, and its line was pushed
pub record IsRefusedFor (files : Files) (name : List ℕ) (why : Refusal) (status : Status)
    (put : Option Files) (before after : Option (List ℕ)) : Type 0 where
  pub refused : status ≡ Refused why
  pub unput : put ≡ Some files
  pub text : TellsAll before (refusal_line name why) after

-- an update whose files are told and may not begin, and in which neither count of faults rose, was
-- refused for that reason and has no trial, unless memory ran out
abbrev pub RefusedUpdateIsRefused : Type 0
RefusedUpdateIsRefused = (files : Files) (u : Update)
    (read : Result (Result Opening Refusal) Absence) (name : List ℕ) (why : Refusal)
    (status : Status) (trial : Option Trial) (put : Option Files) (before after : Option (List ℕ))
    (stores_before stores_now sinks_before sinks_now : ℕ)
    → read_in files 0 (update_reading u) ≡ read → RefusesFor read name why
    → UpdateEnds (Some files) u status trial put before after
    → (status ≡ StoreFault → Rose stores_before stores_now)
    → (status ≡ SinkFault → Rose sinks_before sinks_now)
    → (Rose stores_before stores_now → ⊥) → (Rose sinks_before sinks_now → ⊥)
    → (status ≡ Memory)
    ⊎ ((trial ≡ None) × IsRefusedFor files name why status put before after)

-- so was a sweep
abbrev pub RefusedSweepIsRefused : Type 0
RefusedSweepIsRefused = (files : Files) (s : Sweep)
    (read : Result (Result Opening Refusal) Absence) (name : List ℕ) (why : Refusal)
    (status : Status) (put : Option Files) (before after : Option (List ℕ))
    (stores_before stores_now sinks_before sinks_now : ℕ)
    → read_in files 0 (sweep_reading s) ≡ read → RefusesFor read name why
    → SweepEnds (Some files) s status put before after
    → (status ≡ StoreFault → Rose stores_before stores_now)
    → (status ≡ SinkFault → Rose sinks_before sinks_now)
    → (Rose stores_before stores_now → ⊥) → (Rose sinks_before sinks_now → ⊥)
    → (status ≡ Memory) ⊎ IsRefusedFor files name why status put before after
