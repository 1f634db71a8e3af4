-- How a call with an update ends: what was put and pushed, by its status.
use Rattle.std.specs.Prelude.{◌≡◌, ◌⊎◌, ℕ, List, Option, Some, string_bytes, codes}
use Rattle.pipe_ends.specs.Store.{Files, TellsPut}
use Rattle.pipe_ends.specs.Sink.{TellsAll, TellsSome}
use Rattle.power_cut.specs.declared.outcome.Trial.{Trial}
use Rattle.flash_text.specs.declared.refusal.Refusal.{Refusal}
use Rattle.flash_text.specs.declared.refusal.Refusal.TheVariants.{Absent as AbsentFile}
use Rattle.flash_text.specs.Text.{refusal_line}
use Rattle.flash_text.specs.UpdateText.{IsReadable, update_text}
use Rattle.flash_cli.specs.declared.error.CommandError.{CommandError}
use Rattle.flash_cli.specs.declared.error.CommandError.TheVariants.{Absent, Refused as RefusedBy, Failed}
use Rattle.flash_cli.specs.declared.error.Failure.TheVariants.{Store, Memory as OutOfMemory}
use Rattle.flash_cli.specs.declared.status.Status.{Status}
use Rattle.flash_cli.specs.declared.status.Status.TheVariants.{Done, Usage, Refused, StoreFault, DeviceFault, PowerCut, Memory, SinkFault}
use Rattle.flash_cli.specs.UpdateWords.{Update}
use Rattle.update_run.specs.Updating.{last_end}
use Rattle.flash_cli.specs.Updating.{status_by}

-- the bytes of each fetch of both journals are in them
pub record AreReadable (t : Trial) : Type 0 where
  pub session : IsReadable (Some t.session)
  pub confirm : IsReadable t.confirm

-- the status is one of an update that was made or refused
abbrev pub IsUpdateWork : Status → Type 0
IsUpdateWork Done = Unit {0}
IsUpdateWork Usage = ⊥
IsUpdateWork (Refused why) = Unit {0}
IsUpdateWork StoreFault = ⊥
IsUpdateWork (DeviceFault step) = Unit {0}
IsUpdateWork (PowerCut step) = Unit {0}
IsUpdateWork Memory = ⊥
IsUpdateWork SinkFault = ⊥

-- what a push of lines came to: the status of the work and all of them; or the sink failed or
-- memory ran out, and a first part of them
abbrev pub IsPushed : List ℕ → Status → Status → Option (List ℕ) → Option (List ℕ) → Type 0
IsPushed text work status before after =
    ((status ≡ work) × TellsAll before text after)
    ⊎ (((status ≡ SinkFault) ⊎ (status ≡ Memory)) × TellsSome before text after)

-- nothing was pushed, since memory ran out
abbrev pub IsSilent : Status → Option (List ℕ) → Option (List ℕ) → Type 0
IsSilent status before after = (status ≡ Memory) × (after ≡ before)

-- what the line of a refusal came to
abbrev pub IsRefusal : List ℕ → Refusal → Status → Option (List ℕ) → Option (List ℕ) → Type 0
IsRefusal name why status before after =
    IsSilent status before after
    ⊎ IsPushed (refusal_line name why) (Refused why) status before after

-- what an update that was not made came to
abbrev pub Refuses : CommandError → Status → Option (List ℕ) → Option (List ℕ) → Type 0
Refuses (Absent file name) status before after =
    IsRefusal (string_bytes name) (AbsentFile file) status before after
Refuses (RefusedBy why) status before after = IsRefusal (codes "") why status before after
Refuses (Failed Store) status before after = (status ≡ StoreFault) × (after ≡ before)
Refuses (Failed OutOfMemory) status before after = (status ≡ Memory) × (after ≡ before)

-- the flash was not put: the store failed, or memory ran out
abbrev pub IsUnput : Status → Option Files → Option Files → Option (List ℕ) → Option (List ℕ)
    → Type 0
IsUnput status told put before after =
    ((status ≡ StoreFault) ⊎ (status ≡ Memory)) × (put ≡ told) × (after ≡ before)

-- the trial of an update was told: its flash was put, or not; and then its lines
abbrev pub EndsBy : Update → Trial → Status → Option Files → Option Files → Option (List ℕ)
    → Option (List ℕ) → Type 0
EndsBy u t status told put before after =
    IsUnput status told put before after
    ⊎ (TellsPut told u.out t.flash.items put
    × IsPushed (update_text u.options.driver t) (status_by (last_end t.legs.items)) status before
    after)
