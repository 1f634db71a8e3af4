-- The run of the parking machine behind a leg: what both cores did to the shared words, in one
-- order, and whose work it is.
use Rattle.std.specs.Prelude.{◌≡◌, ◌<◌, ◌++◌, ℕ, List, [], ◌∷◌}
use Rattle.core_state.specs.Registers.{reset}
use Rattle.duo_machine.specs.declared.events.Kind.TheVariants.{Back}
use Rattle.duo_machine.specs.Machine.{first_machine, own_of, record_of}
use Rattle.duo_machine.specs.Runs.{IsSafeRun}
use Rattle.park_words.specs.declared.view.Act.TheVariants.{Made}
use Rattle.park_words.specs.declared.view.Entry.{Entry}
use Rattle.park_words.specs.Story.{CanBeMade, done_by, entry, events_of, machine_at}
use Rattle.bus_hub.specs.declared.did.Did.{Did}
use Rattle.cache_gate.specs.Works.{events_in, works_of}
use Rattle.power_cut.specs.Leg.{share_of}
use Rattle.duo_run.specs.Worker.{regs_by}

-- a core resumes in a run: behind a first part of it, the core puts its registers back
pub record Resumes (c : ℕ) (run : List Entry) : Type 0 where
  pub before : List Entry
  pub later : List Entry
  pub split : run ≡ before ++ entry c (Made Back) ∷ later

-- behind this first part of a run the core has done a first part of its share, and the registers in
-- force are those of the last Set in it, or those at reset where it has none
pub record HasOwnRegisters (c : ℕ) (share : List Did) (front : List Entry) : Type 0 where
  pub did : List Did
  pub later : List Did
  pub splits : share ≡ did ++ later
  pub work : works_of (done_by c front) ≡ events_in did
  pub regs : (record_of (machine_at front) c).regs ≡ regs_by reset did

-- a run of the parking machine, of core 0 and core 1 that did these shares
pub record IsRunOf (left right : List Did) (run : List Entry) : Type 0 where
  -- it begins with both cores at rest, and each event came where it may
  pub made : CanBeMade run
  -- a core's fetches, Sets, and begins and ends of steps in it are those of its share, in order
  pub works : (c : ℕ) → c < 2 → works_of (done_by c run) ≡ events_in (share_of c left right)

-- what both cores keep in a run of these shares
pub record KeepsBoth (left right : List Did) (run : List Entry) : Type 0 where
  -- no core fetches while a step runs, and while one runs both cores are masked
  pub safe : IsSafeRun first_machine (events_of run)
  -- wherever a core puts its registers back, however often it was parked, they are its own
  pub resumes : (c : ℕ) → c < 2 → (r : Resumes c run)
      → HasOwnRegisters c (share_of c left right) (r.before ++ entry c (Made Back) ∷ [])
  -- at the end its own registers are those of the last Set in its share
  pub ends : (c : ℕ) → c < 2 → own_of (machine_at run) c ≡ regs_by reset (share_of c left right)

-- there is a run of these shares, and whichever of them the cores went through, they keep this in it
pub record IsParkedRun (left right : List Did) : Type 0 where
  pub run : List Entry
  pub is : IsRunOf left right run
  pub each : (any : List Entry) → IsRunOf left right any → KeepsBoth left right any
