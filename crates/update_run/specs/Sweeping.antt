-- What a sweep comes to: the steps of an update and what boots behind a cut in each of them, or why it
-- was refused.
use Rattle.std.specs.Prelude.{◌≡◌, ◌<◌, ◌≤◌, ℕ, nat_lt, if◌then◌else◌, All, List, length, Option, Some, Result, Ok, Err}
use Rattle.flash_steps.specs.Parts.{open_addresses}
use Rattle.boot_run.specs.declared.aims.Aim.{Aim}
use Rattle.update_steps.specs.Beside.{IsApart}
use Rattle.power_cut.specs.declared.legs.LegEnd.{LegEnd}
use Rattle.power_cut.specs.declared.legs.LegEnd.TheVariants.{Done as DoneEnd, Device, Cut, FirstByte as FirstByteEnd, Empty as EmptyEnd, Bad}
use Rattle.power_cut.specs.declared.legs.Upto.TheVariants.{Confirm}
use Rattle.power_cut.specs.declared.outcome.Trial.{Trial}
use Rattle.power_cut.specs.declared.swept.Sweep.{Sweep as Swept}
use Rattle.power_cut.specs.declared.swept.SweepNo.{SweepNo}
use Rattle.power_cut.specs.declared.swept.SweepNo.TheVariants.{Refused as RefusedSession, Memory as NoMemory}
use Rattle.power_cut.specs.StepCount.{update_count}
use Rattle.power_cut.specs.Sweep.{IsRefused, IsSweep, IsUpdateOf}
use Rattle.power_cut.specs.Update.{session_end, slot_size}
use Rattle.duo_run.specs.Both.{HasTable}
use Rattle.duo_run.specs.Worker.{worker_steps}
use Rattle.update_run.specs.declared.refusal.UpdateNo.{UpdateNo}
use Rattle.update_run.specs.declared.refusal.UpdateNo.TheVariants.{SweepLimit}
use Rattle.update_run.specs.declared.refusal.OpeningNo.{OpeningNo}
use Rattle.update_run.specs.declared.refusal.OpeningNo.TheVariants.{Refused as MayNotBegin, Memory as NoRoom}
use Rattle.update_run.specs.declared.opening.Opening.{Opening as CodeOpening}
use Rattle.update_run.specs.Opening.{AimsIn, IsOpened, Opening, on_ok, opening_of, opening_with}
use Rattle.update_run.specs.Legs.{Confirms, Writes}
use Rattle.update_run.specs.Updating.{last_end}

-- an opening by an image that is no longer than one of a sweep may be, or the refusal
abbrev pub within_sweep : Opening → Result Opening UpdateNo
within_sweep o =
    if nat_lt 262144 (length o.image) then Err (SweepLimit (length o.image) 262144) else Ok o

-- what a sweep of a flash by an image and the text of a script begins with, or the first reason why
-- it may not begin: those of an update, and then that the image is too long
abbrev pub sweep_opening_of : List ℕ → List ℕ → List ℕ → Result Opening UpdateNo
sweep_opening_of flash image text = on_ok (opening_of flash image text) within_sweep

-- an update of a sweep that began so, of which this core is the driver, up to the confirmation: the
-- power goes off in the step of this number, where one is given, by this tear number
abbrev pub IsSweptUpdate : Opening → ℕ → ℕ → Aim → Option ℕ → Trial → Type 0
IsSweptUpdate o driver tear aim cut t =
    IsUpdateOf (Writes o driver aim) (Confirms o driver) o.layout o.flash tear aim o.image cut t

-- how many steps such an update has, by its files
abbrev pub sweep_count : Opening → Aim → ℕ
sweep_count o aim =
    update_count o.layout aim o.image (worker_steps o.rows o.script) Confirm o.flash

-- a sweep that began so, with the layout by its flash's table, an image of bytes and this tear
-- number: the steps of an update by both cores that was not cut, of which core 0 is the driver, beside
-- a core that writes to nothing that a boot reads, and what boots behind a cut in each of them. These
-- are as many as the files give, and an update that is cut in one of them ends there
pub record IsSwept (tear : ℕ) (o : Opening) (s : Swept) : Type 0 where
  pub table : HasTable o.rows o.layout o.flash
  pub bytes : All (λ b. b < 256) o.image
  pub aim : Aim
  pub aims : AimsIn o.flash o.layout (length o.image) aim
  pub whole : session_end (slot_size o.layout aim.slot) o.image ≡ DoneEnd
  pub sweep : IsSweep (Writes o 0 aim) (Confirms o 0) o.layout o.flash tear aim o.image s
  pub apart : IsApart o.layout (open_addresses o.rows)
  pub steps : s.steps ≡ sweep_count o aim
  pub reached : (k : ℕ) (t : Trial) → k ≤ s.steps → IsSweptUpdate o 0 tear aim (Some k) t
      → last_end t.legs.items ≡ Cut k

-- a sweep that began so is refused: the session of the update that is not cut ends so, by what the
-- bytes of the image show
pub record IsUnswept (tear : ℕ) (o : Opening) (end : LegEnd) : Type 0 where
  pub aim : Aim
  pub aims : AimsIn o.flash o.layout (length o.image) aim
  pub refused : IsRefused (Writes o 0 aim) (Confirms o 0) o.layout o.flash tear aim o.image end

-- a sweep of this flash, image and script begins so
pub record IsSweepOpened (flash image text : List ℕ) (o : CodeOpening) : Type 0 where
  pub opened : IsOpened flash image text o
  pub given : sweep_opening_of flash image text ≡ Ok (opening_with image o)

-- it begins so, or it may not begin for this reason, or memory ran out
abbrev pub OpensSweep : List ℕ → List ℕ → List ℕ → Result CodeOpening OpeningNo → Type 0
OpensSweep flash image text (Ok o) = IsSweepOpened flash image text o
OpensSweep flash image text (Err (MayNotBegin why)) = sweep_opening_of flash image text ≡ Err why
OpensSweep flash image text (Err NoRoom) = Unit {0}

-- a sweep that began so was refused by how its session ended, or memory ran out
abbrev pub IsUnsweptBy : ℕ → Opening → SweepNo → Type 0
IsUnsweptBy tear o (RefusedSession end) = IsUnswept tear o end
IsUnsweptBy tear o NoMemory = Unit {0}

-- a session that was not made whole by what its bytes show ends so
abbrev pub IsRefusedEnd : LegEnd → Type 0
IsRefusedEnd DoneEnd = ⊥
IsRefusedEnd (Device step) = ⊥
IsRefusedEnd (Cut step) = ⊥
IsRefusedEnd (FirstByteEnd byte) = Unit {0}
IsRefusedEnd EmptyEnd = Unit {0}
IsRefusedEnd (Bad why) = Unit {0}
