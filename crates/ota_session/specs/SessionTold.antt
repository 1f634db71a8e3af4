-- The answers of a session's calls.
use Rattle.std.specs.Prelude.{◌≡◌, ◌≢◌, ℕ, ◌+◌, ◌/◌, ◌==◌, ◌&&◌, not, if◌then◌else◌, List, [], ◌∷◌, length, slice_get, Option, Some, None, IfSome, Result, Ok, Err}
use Rattle.nor_device.specs.declared.nor.NorFault.{NorFault}
use Rattle.nor_device.specs.declared.nor.NorFault.TheVariants.{Failed, Off}
use Rattle.partition_table.specs.Layout.{Places}
use Rattle.image_verify.specs.declared.bad.BadImage.{BadImage}
use Rattle.image_verify.specs.Bad.{bad}
use Rattle.boot_run.specs.declared.aims.Aim.{Aim}
use Rattle.bus_hub.specs.declared.did.Base.{Base}
use Rattle.bus_hub.specs.declared.did.Did.{Did}
use Rattle.cache_gate.specs.Own.{Own}
use Rattle.flash_steps.specs.Steps.{write_steps}
use Rattle.flash_ops.specs.declared.refusal.StepNo.{StepNo}
use Rattle.flash_ops.specs.declared.refusal.StepNo.TheVariants as steps
use Rattle.flash_ops.specs.Moves.{HasRun, Move, periods_of, read_moves, write_moves}
use Rattle.flash_ops.specs.Told.{IsCountedUpTo, count_behind}
use Rattle.ota_session.specs.declared.refusal.WriteNo.{WriteNo}
use Rattle.ota_session.specs.declared.refusal.WriteNo.TheVariants as writes
use Rattle.ota_session.specs.declared.refusal.EndNo.{EndNo}
use Rattle.ota_session.specs.declared.refusal.EndNo.TheVariants as ends
use Rattle.ota_session.specs.Course.{Course}
use Rattle.ota_session.specs.Stages.{IsVerified, IsWriting, Verified, Writing, begin_moves, target_of}

-- what the device answered
abbrev pub cause_of : StepNo → NorFault
cause_of steps.Device = Failed
cause_of steps.Cut = Off

-- the quiet periods that a call counted, by its answer: so many, or at most so many
abbrev pub HasCounted : {A E : Type 0} → ℕ → Result A E → ℕ → ℕ → Type 0
HasCounted n (Ok done) before now = now ≡ count_behind before n
HasCounted n (Err back) before now = IsCountedUpTo n before now

-- the quiet periods of a write that was refused: none for the session's first byte, else at most so
-- many
abbrev pub HasCountedSome : ℕ → WriteNo → ℕ → ℕ → Type 0
HasCountedSome n (writes.FirstByte byte) before now = now ≡ before
HasCountedSome n writes.Device before now = IsCountedUpTo n before now
HasCountedSome n writes.Cut before now = IsCountedUpTo n before now

-- how many quiet periods begin a session: one for each sector that the image needs
abbrev pub begin_periods : Aim → ℕ
begin_periods aim = (aim.length + 4095) / 4096

-- how the read of the bytes that are written ended, for the device
abbrev pub found_as : Result (Option BadImage) StepNo → Result (Unit {0}) NorFault
found_as (Ok found) = Ok tt
found_as (Err why) = Err (cause_of why)

-- how the device answered the reads of a session that was not announced: all of them where nothing
-- was written, or the bytes show a fault
abbrev pub answered_by : EndNo → Result (Unit {0}) NorFault
answered_by ends.Empty = Ok tt
answered_by (ends.Bad why) = Ok tt
answered_by ends.Device = Err Failed
answered_by ends.Cut = Err Off

-- why bytes are not announced that could not be read back
abbrev pub unread_by : StepNo → EndNo
unread_by steps.Device = ends.Device
unread_by steps.Cut = ends.Cut

-- the first byte of the session, where this piece has it and it is not that of an image
unfoldable pub wrong_byte : ℕ → List ℕ → Option ℕ
wrong_byte written [] = None
wrong_byte written (byte ∷ bytes) =
    if (written == 0) && not (byte == 0xE9) then Some byte else None

module _ {S : Type 0} where
  -- a session has begun: the sectors are erased, and nothing is written
  pub record HasBegun (layout : Places) (aim : Aim) (probe : Option ℕ)
      (o : Own (Base S Course) Did) (w : Writing (Base S Course)) : Type 0 where
    pub ran : HasRun 0 (begin_moves layout aim probe) (Ok tt) o w.core
    pub target : IfSome (slice_get layout.slots aim.slot)
        (λ row. w.target ≡ target_of layout row aim)
    pub written : w.written ≡ 0
    pub writing : IsWriting w

  -- the moves of a piece
  abbrev pub piece_moves : Option ℕ → Writing (Base S Course) → List ℕ → List Move
  piece_moves probe w piece = write_moves probe (w.target.at + w.written) piece

  -- how many quiet periods write a piece
  abbrev pub piece_periods : Writing (Base S Course) → List ℕ → ℕ
  piece_periods w piece = periods_of (write_steps (w.target.at + w.written) piece)

  -- a piece is written
  pub record HasWritten (probe : Option ℕ) (piece : List ℕ) (w w' : Writing (Base S Course))
      : Type 0 where
    pub first : wrong_byte w.written piece ≡ None
    pub ran : HasRun 0 (piece_moves probe w piece) (Ok tt) w.core w'.core
    pub target : w'.target ≡ w.target
    pub written : w'.written ≡ w.written + length piece
    pub writing : IsWriting w'

  -- a piece is refused: for the session's first byte, before anything was done; or by the device
  abbrev pub IsNotWritten : Option ℕ → List ℕ → Writing (Base S Course) → WriteNo
      → Own (Base S Course) Did → Type 0
  IsNotWritten probe piece w (writes.FirstByte byte) o =
      (wrong_byte w.written piece ≡ Some byte) × (o ≡ w.core)
  IsNotWritten probe piece w writes.Device o =
      (wrong_byte w.written piece ≡ None)
      × HasRun 0 (piece_moves probe w piece) (Err Failed) w.core o
  IsNotWritten probe piece w writes.Cut o =
      (wrong_byte w.written piece ≡ None)
      × HasRun 0 (piece_moves probe w piece) (Err Off) w.core o

  -- the bytes that are written were read back, and are a whole image within the slot
  pub record HasVerified (w : Writing (Base S Course)) (v : Verified (Base S Course))
      : Type 0 where
    pub ran : HasRun 0 (read_moves w.written) (Ok tt) w.core v.core
    pub target : v.target ≡ w.target
    pub verified : IsVerified v

  -- they are not: nothing was written; or they were read back and show a fault; or the device
  -- refused
  abbrev pub IsNotVerified : List ℕ → Writing (Base S Course) → EndNo → Own (Base S Course) Did
      → Type 0
  IsNotVerified image w ends.Empty o = (image ≡ []) × (o ≡ w.core)
  IsNotVerified image w (ends.Bad why) o =
      (image ≢ []) × (bad w.target.size image ≡ Some why)
      × HasRun 0 (read_moves w.written) (Ok tt) w.core o
  IsNotVerified image w ends.Device o =
      (image ≢ []) × HasRun 0 (read_moves w.written) (Err Failed) w.core o
  IsNotVerified image w ends.Cut o =
      (image ≢ []) × HasRun 0 (read_moves w.written) (Err Off) w.core o
