-- The state of the two-core machine: what one core has of it, and the machine with that changed.
use Rattle.std.specs.Prelude.{◌≡◌, ℕ, ◌-◌, ◌⊎◌, [], ◌∷◌, length, None, slice_index_or, slice_set}
use Rattle.core_state.specs.declared.registers.Regs.{Regs}
use Rattle.core_state.specs.declared.registers.Record.{Record}
use Rattle.core_state.specs.Registers.{starting, own_registers}
use Rattle.duo_machine.specs.declared.machine.Gate.{Gate}
use Rattle.duo_machine.specs.declared.machine.Gate.TheVariants.{Rest, Run, Asked, Parked, Freed, Held}
use Rattle.duo_machine.specs.declared.machine.Phase.{Phase}
use Rattle.duo_machine.specs.declared.machine.Phase.TheVariants.{Resting}
use Rattle.duo_machine.specs.declared.machine.Machine.{Machine}

-- the core that is not this one, of 0 and 1
abbrev pub other : ℕ → ℕ
other c = 1 - c

-- the gate of a core
abbrev pub gate_of : Machine → ℕ → Gate
gate_of m c = slice_index_or m.gates c Rest

-- the phase of a core
abbrev pub phase_of : Machine → ℕ → Phase
phase_of m c = slice_index_or m.phases c Resting

-- the record of a core: its registers in force, and the saved ones
abbrev pub record_of : Machine → ℕ → Record
record_of m c = slice_index_or m.records c starting

-- the registers that are a core's own
abbrev pub own_of : Machine → ℕ → Regs
own_of m c = own_registers (record_of m c)

-- the same machine, but for the gate of a core
abbrev pub with_gate : ℕ → Gate → Machine → Machine
with_gate c gate m = record m { gates = slice_set m.gates c gate }

-- the same machine, but for the phase of a core
abbrev pub with_phase : ℕ → Phase → Machine → Machine
with_phase c phase m = record m { phases = slice_set m.phases c phase }

-- the same machine, but for the record of a core
abbrev pub with_record : ℕ → Record → Machine → Machine
with_record c registers m = record m { records = slice_set m.records c registers }

-- the core behind the gate is out of the way: it is parked, or held at rest
abbrev pub KeepsAway : Gate → Type 0
KeepsAway gate = (gate ≡ Parked) ⊎ (gate ≡ Held)

-- the gate once the other core is done: a parked core is freed, and one that was held is at rest
abbrev pub let_go : Gate → Gate
let_go Rest = Rest
let_go Run = Run
let_go Asked = Asked
let_go Parked = Freed
let_go Freed = Freed
let_go Held = Rest

-- it has two gates, two phases and two records
pub record HasTwoCores (m : Machine) : Type 0 where
  pub gates : length m.gates ≡ 2
  pub phases : length m.phases ≡ 2
  pub records : length m.records ≡ 2

-- neither core has started, nobody has the lock and nothing runs
abbrev pub first_machine : Machine
first_machine =
    record {
      lock = 0;
      gates = Rest ∷ Rest ∷ [];
      phases = Resting ∷ Resting ∷ [];
      records = starting ∷ starting ∷ [];
      running = None;
    }
