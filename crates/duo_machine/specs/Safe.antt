-- The safe machines, part by part: what the lock, the gates, the phases, the running step and the
-- registers say of each other, as one of the cores sees them.
use Rattle.std.specs.Prelude.{◌≡◌, ℕ, ◌+◌, ◌≤◌, ◌⊎◌, ◌↔◌, Option, Some, None, IsSome}
use Rattle.core_state.specs.declared.registers.Record.{Record}
use Rattle.core_state.specs.Registers.{masked, own_registers}
use Rattle.duo_machine.specs.declared.machine.Gate.{Gate}
use Rattle.duo_machine.specs.declared.machine.Gate.TheVariants.{Rest as AtRest, Asked, Parked as AtParked, Freed, Held}
use Rattle.duo_machine.specs.declared.machine.Phase.{Phase}
use Rattle.duo_machine.specs.declared.machine.Phase.TheVariants.{Resting, Running, Owning, Asking, Quiet, Parked}
use Rattle.duo_machine.specs.declared.machine.Machine.{Machine}
use Rattle.duo_machine.specs.Machine.{other, gate_of, phase_of, record_of, HasTwoCores}

-- a core in this phase has the lock
abbrev pub IsInside : Phase → Type 0
IsInside phase = (phase ≡ Owning) ⊎ (phase ≡ Asking) ⊎ (phase ≡ Quiet)

-- a core in this phase has saved its registers
abbrev pub IsMasked : Phase → Type 0
IsMasked phase = (phase ≡ Resting) ⊎ (phase ≡ Parked) ⊎ (phase ≡ Asking) ⊎ (phase ≡ Quiet)

-- the lock is the core's exactly while the core is inside
pub record LockFits (c lock : ℕ) (phase : Phase) : Type 0 where
  -- it names the core where the core is inside, and nowhere else
  pub owner : (lock ≡ c + 1) ↔ IsInside phase
  -- it names nobody, core 0 or core 1
  pub at_most_two : lock ≤ 2

-- a gate tells what its own core is doing
pub record GateFits (gate : Gate) (phase : Phase) : Type 0 where
  -- the core rests exactly where its gate is at rest or held
  pub resting : (phase ≡ Resting) ↔ ((gate ≡ AtRest) ⊎ (gate ≡ Held))
  -- the core is parked exactly where its gate says that it is parked or freed
  pub parked : (phase ≡ Parked) ↔ ((gate ≡ AtParked) ⊎ (gate ≡ Freed))
  -- only a running core is asked to park
  pub asked : gate ≡ Asked → phase ≡ Running

-- a gate tells what the other core is doing, and the other core knows the gate
pub record GateHasReason (gate : Gate) (other_phase : Phase) : Type 0 where
  -- a core is asked only while the other one is asking
  pub asked : gate ≡ Asked → other_phase ≡ Asking
  -- a core is parked only while the other one is asking or quiet
  pub parked : gate ≡ AtParked → (other_phase ≡ Asking) ⊎ (other_phase ≡ Quiet)
  -- a core is held only while the other one is quiet
  pub held : gate ≡ Held → other_phase ≡ Quiet
  -- a core is freed only while the other one rests, runs, or owns the lock and asks for nothing yet
  pub freed :
      gate ≡ Freed → (other_phase ≡ Resting) ⊎ (other_phase ≡ Running) ⊎ (other_phase ≡ Owning)
  -- while the other core is quiet, this one is parked or held
  pub quiet : other_phase ≡ Quiet → (gate ≡ AtParked) ⊎ (gate ≡ Held)
  -- while the other core is asking, this one is asked or parked
  pub asking : other_phase ≡ Asking → (gate ≡ Asked) ⊎ (gate ≡ AtParked)

-- a step runs only in a quiet core
pub record StepFits (c : ℕ) (phase : Phase) (running : Option ℕ) : Type 0 where
  -- where the running step is the core's, the core is quiet
  pub quiet : running ≡ Some c → phase ≡ Quiet
  -- the running step is one of core 0 or core 1, if there is one
  pub of_a_core : (running ≡ None) ⊎ (running ≡ Some 0) ⊎ (running ≡ Some 1)

-- the registers of a core are saved where they must be, and masked where they are saved
pub record RegistersFit (phase : Phase) (registers : Record) : Type 0 where
  -- a core that rests, is parked, asks or is quiet has saved its registers
  pub saved : IsMasked phase → IsSome registers.saved
  -- where registers are saved, no space is served and no line is enabled
  pub masked_there : IsSome registers.saved → registers.regs ≡ masked
  -- the core's own mask, in force or saved, has no bits but those of the two spaces
  pub own_mask : (own_registers registers).mask ≤ 3

-- what a safe machine is for one core: its number, the lock, its gate, its phase, the phase of the
-- other core, its record and the running step
pub record SafeAt
    (c lock : ℕ) (gate : Gate) (phase other_phase : Phase) (registers : Record) (running : Option ℕ)
    : Type 0 where
  -- the lock is the core's exactly while the core is inside
  pub lock_fits : LockFits c lock phase
  -- the core's gate tells what the core is doing
  pub gate_fits : GateFits gate phase
  -- the core's gate tells what the other core is doing
  pub gate_has_reason : GateHasReason gate other_phase
  -- a step of the core runs only while it is quiet
  pub step_fits : StepFits c phase running
  -- the core's registers are saved where they must be
  pub registers_fit : RegistersFit phase registers

-- what a machine is for one of its cores
abbrev pub SafeFor : Machine → ℕ → Type 0
SafeFor m c =
    SafeAt c m.lock (gate_of m c) (phase_of m c) (phase_of m (other c)) (record_of m c) m.running

-- the machine is safe for both of its cores
pub record Safe (m : Machine) : Type 0 where
  -- it has two gates, two phases and two records
  pub two_cores : HasTwoCores m
  -- it is safe for core 0
  pub zero_safe : SafeFor m 0
  -- it is safe for core 1
  pub one_safe : SafeFor m 1
