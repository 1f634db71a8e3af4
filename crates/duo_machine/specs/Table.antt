-- The table of events: when each may happen, and what it changes.
use Rattle.std.specs.Prelude.{◌≡◌, ◌≢◌, ℕ, ◌+◌, ◌≤◌, ◌⊎◌, Some, None, IsSome, IsNone}
use Rattle.std.specs.Int.{IsBitSet}
use Rattle.core_state.specs.Registers.{saved_and_masked, restored}
use Rattle.image_layout.specs.declared.space.Space.{Space}
use Rattle.image_layout.specs.declared.space.Space.TheVariants.{Data, Code}
use Rattle.duo_machine.specs.declared.machine.Gate.TheVariants.{Rest as AtRest, Run, Asked, Parked as AtParked, Freed, Held}
use Rattle.duo_machine.specs.declared.machine.Phase.{Phase}
use Rattle.duo_machine.specs.declared.machine.Phase.TheVariants.{Resting, Running, Owning, Asking, Quiet, Parked}
use Rattle.duo_machine.specs.declared.machine.Machine.{Machine}
use Rattle.duo_machine.specs.declared.events.Kind.{Kind}
use Rattle.duo_machine.specs.declared.events.Kind.TheVariants.{Start, Rest, Take, Give, Save, Back, Hold, Ask, Park, See, Begin, Done, End, Leave, Set, Fetch}
use Rattle.duo_machine.specs.declared.events.Event.{Event}
use Rattle.duo_machine.specs.Machine.{other, gate_of, phase_of, record_of, with_gate, with_phase, with_record, KeepsAway, let_go}

-- something is saved
abbrev pub HasSaved : Machine → ℕ → Type 0
HasSaved m c = IsSome (record_of m c).saved

-- nothing is saved
abbrev pub HasNoneSaved : Machine → ℕ → Type 0
HasNoneSaved m c = IsNone (record_of m c).saved

-- the bit of the mask that serves this space
abbrev pub bit_of : Space → ℕ
bit_of Data = 0
bit_of Code = 1

-- the core runs, or has the lock and has not asked yet
abbrev pub IsAwake : Phase → Type 0
IsAwake phase = (phase ≡ Running) ⊎ (phase ≡ Owning)

-- the guard: what has to hold of the machine for the core's event
abbrev pub Allows : Machine → ℕ → Kind → Type 0
Allows m c Start = (phase_of m c ≡ Resting) × (gate_of m c ≡ AtRest)
Allows m c Rest = (phase_of m c ≡ Running) × HasSaved m c × (gate_of m c ≡ Run)
Allows m c Take = (phase_of m c ≡ Running) × (m.lock ≡ 0)
Allows m c Give = (phase_of m c ≡ Owning) × HasNoneSaved m c × (m.lock ≡ c + 1)
Allows m c Save = IsAwake (phase_of m c) × HasNoneSaved m c
Allows m c Back = IsAwake (phase_of m c) × HasSaved m c
Allows m c Ask = (phase_of m c ≡ Owning) × HasSaved m c × (gate_of m (other c) ≡ Run)
Allows m c Hold = (phase_of m c ≡ Owning) × HasSaved m c × (gate_of m (other c) ≡ AtRest)
Allows m c See = (phase_of m c ≡ Asking) × (gate_of m (other c) ≡ AtParked)
Allows m c Park = (phase_of m c ≡ Running) × HasSaved m c × (gate_of m c ≡ Asked)
Allows m c Begin = (phase_of m c ≡ Quiet) × (m.running ≢ Some c)
Allows m c Done = (phase_of m c ≡ Quiet) × (m.running ≡ Some c)
Allows m c End = (phase_of m c ≡ Quiet) × (m.running ≢ Some c) × KeepsAway (gate_of m (other c))
Allows m c Leave = (phase_of m c ≡ Parked) × (gate_of m c ≡ Freed)
Allows m c (Set registers) =
    (phase_of m c ≡ Running) × HasNoneSaved m c × (registers.mask ≤ 3)
Allows m c (Fetch space) =
    (phase_of m c ≡ Running) × IsBitSet (record_of m c).regs.mask (bit_of space)

-- the change: the machine after the core's event
abbrev pub changed : Machine → ℕ → Kind → Machine
changed m c Start = with_gate c Run (with_phase c Running m)
changed m c Rest = with_gate c AtRest (with_phase c Resting m)
changed m c Take = record (with_phase c Owning m) { lock = c + 1 }
changed m c Give = record (with_phase c Running m) { lock = 0 }
changed m c Save = with_record c (saved_and_masked (record_of m c)) m
changed m c Back = with_record c (restored (record_of m c)) m
changed m c Ask = with_gate (other c) Asked (with_phase c Asking m)
changed m c Hold = with_gate (other c) Held (with_phase c Quiet m)
changed m c See = with_phase c Quiet m
changed m c Park = with_gate c AtParked (with_phase c Parked m)
changed m c Begin = record m { running = Some c }
changed m c Done = record m { running = None }
changed m c End = with_gate (other c) (let_go (gate_of m (other c))) (with_phase c Owning m)
changed m c Leave = with_gate c Run (with_phase c Running m)
changed m c (Set registers) = with_record c (record (record_of m c) { regs = registers }) m
changed m c (Fetch space) = m

-- the event may happen next
abbrev pub CanHappen : Machine → Event → Type 0
CanHappen m e = Allows m e.core e.kind

-- the machine after the event
abbrev pub after : Machine → Event → Machine
after m e = changed m e.core e.kind
