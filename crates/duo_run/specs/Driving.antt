-- What the core that drives leaves: the moves of an update or of a confirmation, and how it ended.
use Rattle.std.specs.Prelude.{◌≡◌, ℕ, List, [], ◌∷◌, ◌++◌, length, slice_get, Option, Some, None, Result, Ok, Err}
use Rattle.nor_device.specs.declared.nor.NorFault.{NorFault}
use Rattle.nor_device.specs.declared.nor.NorFault.TheVariants.{Failed, Off}
use Rattle.partition_table.specs.Layout.{Places}
use Rattle.image_verify.specs.Bad.{bad}
use Rattle.boot_run.specs.declared.aims.Aim.{Aim}
use Rattle.bus_hub.specs.declared.did.Base.{Base}
use Rattle.bus_hub.specs.declared.did.Did.{Did}
use Rattle.cache_gate.specs.Own.{Own}
use Rattle.flash_ops.specs.declared.refusal.StepNo.{StepNo}
use Rattle.flash_ops.specs.declared.refusal.StepNo.TheVariants as steps
use Rattle.update_steps.specs.Driver.{next_rewrite}
use Rattle.flash_ops.specs.Moves.{HasRun, Move, read_moves, write_moves}
use Rattle.ota_session.specs.declared.refusal.WriteNo.{WriteNo}
use Rattle.ota_session.specs.declared.refusal.WriteNo.TheVariants as writes
use Rattle.ota_session.specs.declared.refusal.EndNo.{EndNo}
use Rattle.ota_session.specs.declared.refusal.EndNo.TheVariants as refusals
use Rattle.ota_session.specs.Course.{Course, Install}
use Rattle.ota_session.specs.SessionTold.{cause_of, wrong_byte}
use Rattle.ota_session.specs.Stages.{Drives, IsWriting, Writing, begin_moves, closing_moves, entry_moves, in_slot}
use Rattle.power_cut.specs.declared.legs.LegEnd.{LegEnd}
use Rattle.power_cut.specs.declared.legs.LegEnd.TheVariants.{Bad, Empty, FirstByte}
use Rattle.power_cut.specs.Update.{sealed_end}

-- what the device answered where a leg that ended so, or was broken off
abbrev pub ended_as : Result LegEnd StepNo → Result (Unit {0}) NorFault
ended_as (Ok end) = Ok tt
ended_as (Err why) = Err (cause_of why)

-- how a session ends whose image is not written to its end
abbrev pub unwritten_as : WriteNo → Result LegEnd StepNo
unwritten_as (writes.FirstByte byte) = Ok (FirstByte byte)
unwritten_as writes.Device = Err steps.Device
unwritten_as writes.Cut = Err steps.Cut

-- and one whose image is not announced
abbrev pub unsealed_as : EndNo → Result LegEnd StepNo
unsealed_as refusals.Empty = Ok Empty
unsealed_as (refusals.Bad why) = Ok (Bad why)
unsealed_as refusals.Device = Err steps.Device
unsealed_as refusals.Cut = Err steps.Cut

-- all moves that a session may come to, whatever its bytes are
abbrev pub all_moves : Places → Aim → Option ℕ → List ℕ → List Move
all_moves layout aim probe image =
    begin_moves layout aim probe
    ++ in_slot (slice_get layout.slots aim.slot) (λ row. write_moves probe row.offset image
    ++ entry_moves probe layout.otadata (next_rewrite aim))

module _ {S : Type 0} where
  -- a core may begin to install an image by this aim
  abbrev pub IsToInstall : Places → Aim → List ℕ → Own (Base S Course) Did → Type 0
  IsToInstall layout aim image o = Drives layout (Install aim image) [] o

  -- the moves that close a session in which so many bytes are written
  abbrev pub seal_moves : Option ℕ → Writing (Base S Course) → List ℕ → List Move
  seal_moves probe w [] = []
  seal_moves probe w (byte ∷ bytes) =
      closing_moves (bad w.target.size (byte ∷ bytes)) (read_moves w.written)
      (entry_moves probe w.target.otadata w.target.next)

  -- all bytes of an image are written
  pub record HasWrittenAll (probe : Option ℕ) (image : List ℕ) (w w' : Writing (Base S Course))
      : Type 0 where
    pub first : wrong_byte 0 image ≡ None
    pub ran : HasRun 0 (write_moves probe w.target.at image) (Ok tt) w.core w'.core
    pub target : w'.target ≡ w.target
    pub written : w'.written ≡ length image
    pub writing : IsWriting w'

  -- they are not: for the first byte of all, before anything was done; or by the device
  abbrev pub IsNotAllWritten : Option ℕ → List ℕ → Writing (Base S Course) → WriteNo
      → Own (Base S Course) Did → Type 0
  IsNotAllWritten probe image w (writes.FirstByte byte) o =
      (wrong_byte 0 image ≡ Some byte) × (o ≡ w.core)
  IsNotAllWritten probe image w writes.Device o =
      (wrong_byte 0 image ≡ None)
      × HasRun 0 (write_moves probe w.target.at image) (Err Failed) w.core o
  IsNotAllWritten probe image w writes.Cut o =
      (wrong_byte 0 image ≡ None)
      × HasRun 0 (write_moves probe w.target.at image) (Err Off) w.core o

-- how a session ends behind its last piece
abbrev pub closed_end : ℕ → List ℕ → LegEnd
closed_end size [] = Empty
closed_end size (byte ∷ bytes) = sealed_end (bad size (byte ∷ bytes))
