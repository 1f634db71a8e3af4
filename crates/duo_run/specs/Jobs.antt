-- What the core that drives is to do, in either kind of leg: to install an image, or to confirm the
-- application that runs.
use Rattle.std.specs.Prelude.{◌≡◌, ℕ, ◌+◌, ◌*◌, ◌/◌, Bool, List, [], Option, IfOk, Result, length}
use Rattle.core_state.specs.Registers.{reset}
use Rattle.nor_device.specs.declared.nor.NorFault.{NorFault}
use Rattle.partition_table.specs.Layout.{Places}
use Rattle.bus_hub.specs.declared.did.Base.{Base}
use Rattle.bus_hub.specs.declared.did.Did.{Did}
use Rattle.bus_hub.specs.declared.journal.Room.{Room}
use Rattle.cache_gate.specs.Own.{Own}
use Rattle.flash_ops.specs.declared.refusal.StepNo.{StepNo}
use Rattle.flash_ops.specs.Asked.{CanLook, HasRoomFor}
use Rattle.flash_ops.specs.Moves.{HasRun, Move, Ran as HasMoved}
use Rattle.ota_session.specs.Course.{Confirm, Course, Install, Purpose}
use Rattle.ota_session.specs.Stages.{Drives, confirm_moves, image_for, session_moves}
use Rattle.power_cut.specs.declared.legs.LegEnd.{LegEnd}
use Rattle.power_cut.specs.declared.legs.LegEnd.TheVariants.{Done}
use Rattle.power_cut.specs.Update.{HoldsRewrite, HoldsUpdate, session_end, slot_size}
use Rattle.duo_run.specs.declared.job.Job.{Job}
use Rattle.duo_run.specs.declared.job.Job.TheVariants as jobs
use Rattle.duo_run.specs.Driving.{all_moves, ended_as}

-- what the steps of a job are for
abbrev pub purpose_of : Job → Purpose
purpose_of (jobs.Install aim image) = Install aim.now image.now
purpose_of (jobs.Confirm write) = Confirm write.now

-- an image has the length that its aim is for
abbrev pub IsAsLong : Purpose → Type 0
IsAsLong (Install aim image) = length image ≡ aim.length
IsAsLong (Confirm write) = Unit {0}

-- the moves of the driver
abbrev pub moves_for : Places → Purpose → Option ℕ → List Move
moves_for layout (Install aim image) probe = session_moves layout aim probe image
moves_for layout (Confirm write) probe = confirm_moves layout write probe

-- all moves that it may come to, whatever the bytes of an image are
abbrev pub most_moves_for : Places → Purpose → Option ℕ → List Move
most_moves_for layout (Install aim image) probe = all_moves layout aim probe image
most_moves_for layout (Confirm write) probe = confirm_moves layout write probe

-- the end of a leg in which nothing broke off
abbrev pub end_for : Places → Purpose → LegEnd
end_for layout (Install aim image) = session_end (slot_size layout aim.slot) image
end_for layout (Confirm write) = Done

-- what holds at every moment of a leg that begins on this flash
abbrev pub HoldsFor : Places → List ℕ → Purpose → (ℕ → Bool) → List ℕ → Type 0
HoldsFor layout first (Install aim image) others = HoldsUpdate layout first aim image others
HoldsFor layout first (Confirm write) others = HoldsRewrite layout first write others

-- the share of the driver
abbrev pub DriverShare : Places → Purpose → Option ℕ → Result (Unit {0}) NorFault → List Did
    → Type 0
DriverShare layout purpose probe r items = HasMoved 0 reset (moves_for layout purpose probe) r items

-- the room in the journal that the driver needs at most, by the length of its image: three entries
-- for the erase of a sector and the look behind it, two for a program, and one for a look behind
-- sixteen of them; and six for the entry. Each look has four bytes
abbrev pub driver_room : ℕ → Room
driver_room len = record {
  entries = 4 * ((len + 4095) / 4096) + 2 * ((len + 255) / 256) + 6;
  bytes = 8 * ((len + 4095) / 4096) + 8;
}

-- the length of the image of a job, none in a confirmation
abbrev pub length_for : Purpose → ℕ
length_for purpose = length (image_for purpose)

module _ {S : Type 0} where
  -- a core can do its job, with a probe
  pub record CanDrive (layout : Places) (purpose : Purpose) (probe : Option ℕ)
      (o : Own (Base S Course) Did) : Type 0 where
    pub drives : Drives layout purpose [] o
    pub room : HasRoomFor o.base o.core o.share (most_moves_for layout purpose probe)
    pub look : CanLook o.base o.regs probe

  -- it did, as far as the device let it
  pub record HasDriven (layout : Places) (purpose : Purpose) (probe : Option ℕ)
      (r : Result LegEnd StepNo) (o o' : Own (Base S Course) Did) : Type 0 where
    pub ran : HasRun 0 (moves_for layout purpose probe) (ended_as r) o o'
    pub end : IfOk r (λ end. end ≡ end_for layout purpose)
