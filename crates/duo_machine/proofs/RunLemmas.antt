-- Runs from a safe machine: what holds at each machine on the way, and of a core's own registers.
use Rattle.std.proofs.Common.{◌≡◌, ◌==◌, ℕ, zero, suc, ◌+◌, ◌<◌, ◌∙◌, ap, subst, sym, inl, inr, Bool, true, false, List, [], ◌∷◌, ◌++◌, Option, Some, None, arith, refl}
use Rattle.std.specs.Prelude.{if◌then◌else◌, IsNone, unwrap_or}
use Rattle.core_state.specs.declared.registers.Regs.{Regs}
use Rattle.core_state.specs.declared.registers.Record.{Record}
use Rattle.core_state.specs.Registers.{masked, own_registers}
use Rattle.image_layout.specs.declared.space.Space.{Space}
use Rattle.duo_machine.specs.declared.machine.Gate.{Gate}
use Rattle.duo_machine.specs.declared.machine.Phase.{Phase}
use Rattle.duo_machine.specs.declared.machine.Phase.TheVariants.{Running}
use Rattle.duo_machine.specs.declared.machine.Machine.{Machine}
use Rattle.duo_machine.specs.declared.events.Kind.{Kind}
use Rattle.duo_machine.specs.declared.events.Kind.TheVariants.{Save, Back, Set, Fetch}
use Rattle.duo_machine.specs.declared.events.Event.{Event}
use Rattle.duo_machine.specs.Machine.{HasTwoCores, record_of}
use Rattle.duo_machine.specs.Safe.{SafeAt, Safe}
use Rattle.duo_machine.specs.Table.{Allows, changed, CanHappen, after, HasNoneSaved}
use Rattle.duo_machine.specs.Runs.{AreOfTwoCores, CanRun, after_all, Passes, Fetches, StepsRunMasked, set_by, last_set, IsSafeRun}
use Rattle.duo_machine.proofs.StepKeeps.{of_two, by_two, event_keeps_safe}

-- where a core runs outside the lock, no step runs
pub idle : {c o lock : ℕ} {gate other_gate : Gate} {phase other_phase : Phase}
    {registers other_registers : Record} {running : Option ℕ} → c + o ≡ 1
    → SafeAt c lock gate phase other_phase registers running
    → SafeAt o lock other_gate other_phase phase other_registers running → phase ≡ Running
    → running ≡ None
idle apart mine theirs runs = grind arith

-- where a core's step runs, both cores are masked
pub both_masked : {c o lock : ℕ} {gate other_gate : Gate} {phase other_phase : Phase}
    {registers other_registers : Record} {running : Option ℕ} → c + o ≡ 1
    → SafeAt c lock gate phase other_phase registers running
    → SafeAt o lock other_gate other_phase phase other_registers running → running ≡ Some c
    → (registers.regs ≡ masked) × (other_registers.regs ≡ masked)
both_masked apart mine theirs runs = (grind arith, grind arith)

-- a machine at which a core may fetch has no running step
pub fetch_is_idle : (m : Machine) (c : ℕ) (space : Space) → c < 2 → Safe m
    → Allows m c (Fetch space) → m.running ≡ None
fetch_is_idle m zero space small safe can = idle refl safe.zero_safe safe.one_safe can.0
fetch_is_idle m (suc zero) space small safe can = idle refl safe.one_safe safe.zero_safe can.0
fetch_is_idle m (suc (suc c)) space small safe can = absurd (omega arith)

-- in a safe machine a step runs with both cores masked
pub steps_run_masked : (m : Machine) → Safe m → StepsRunMasked m
steps_run_masked m safe runs =
    elim safe.zero_safe.step_fits.of_a_core [
      | inl none ↦ absurd (grind arith)
      | inr (inl first) ↦ each (both_masked refl safe.zero_safe safe.one_safe first)
      | inr (inr second) ↦ let both =
          both_masked refl safe.one_safe safe.zero_safe second in each (both.1, both.0)
    ]
  where
    each : ((record_of m 0).regs ≡ masked) × ((record_of m 1).regs ≡ masked) → (c : ℕ) → c < 2
        → (record_of m c).regs ≡ masked
    each both zero small = both.0
    each both (suc zero) small = both.1
    each both (suc (suc c)) small = absurd (omega arith)

-- a choice between one and the same value is that value
same : (b : Bool) (x : Regs) → (if b then x else x) ≡ x
same true x = refl
same false x = refl

-- where nothing is saved, the registers in force are the core's own
pub none_saved : (registers : Record) → IsNone registers.saved
    → registers.regs ≡ own_registers registers
none_saved registers none = from registers.saved none
  where
    from : (saved : Option Regs) → IsNone saved → registers.regs ≡ unwrap_or saved registers.regs
    from None none = refl
    from (Some own) none = absurd (cc)

-- where nothing is saved, the core's own registers are those that are written
wanted_own : (registers : Record) (wanted : Regs) → IsNone registers.saved
    → own_registers (record registers { regs = wanted }) ≡ wanted
wanted_own registers wanted none = from registers.saved none
  where
    from : (saved : Option Regs) → IsNone saved → unwrap_or saved wanted ≡ wanted
    from None none = refl
    from (Some own) none = absurd (cc)

-- the own registers of a core after an event of a core: those that its own Set wrote, or else those
-- before
abbrev KeepsOwn : Machine → ℕ → Kind → ℕ → Type 0
KeepsOwn m c kind d =
    own_registers (record_of (changed m c kind) d) ≡
    (if c == d then set_by kind (own_registers (record_of m d)) else own_registers (record_of m d))

own_in_two : (c d : ℕ) (kind : Kind) → c < 2 → d < 2
    → (lock : ℕ) (gate gate' : Gate) (phase phase' : Phase) (registers registers' : Record)
    (running : Option ℕ)
    → Allows (of_two lock gate gate' phase phase' registers registers' running) c kind
    → KeepsOwn (of_two lock gate gate' phase phase' registers registers' running) c kind d
own_in_two zero zero Save i j lock gate gate' phase phase' a b running can = none_saved a can.1
own_in_two zero zero Back i j lock gate gate' phase phase' a b running can = refl
own_in_two zero zero (Set wanted) i j lock gate gate' phase phase' a b running can =
    wanted_own a wanted can.1
own_in_two zero (suc zero) Save i j lock gate gate' phase phase' a b running can = refl
own_in_two zero (suc zero) Back i j lock gate gate' phase phase' a b running can = refl
own_in_two zero (suc zero) (Set wanted) i j lock gate gate' phase phase' a b running can = refl
own_in_two (suc zero) zero Save i j lock gate gate' phase phase' a b running can = refl
own_in_two (suc zero) zero Back i j lock gate gate' phase phase' a b running can = refl
own_in_two (suc zero) zero (Set wanted) i j lock gate gate' phase phase' a b running can = refl
own_in_two (suc zero) (suc zero) Save i j lock gate gate' phase phase' a b running can =
    none_saved b can.1
own_in_two (suc zero) (suc zero) Back i j lock gate gate' phase phase' a b running can = refl
own_in_two (suc zero) (suc zero) (Set wanted) i j lock gate gate' phase phase' a b running can =
    wanted_own b wanted can.1
own_in_two (suc (suc c)) d kind i j lock gate gate' phase phase' a b running can =
    absurd (omega arith)
own_in_two c (suc (suc d)) kind i j lock gate gate' phase phase' a b running can =
    absurd (omega arith)
own_in_two c d kind i j lock gate gate' phase phase' a b running can = sym (same (c == d) _)

-- an event changes the own registers of a core only where it is a Set of that core
pub event_keeps_own : (m : Machine) (e : Event) (d : ℕ) → e.core < 2 → d < 2 → HasTwoCores m
    → CanHappen m e → KeepsOwn m e.core e.kind d
event_keeps_own m e d core small two can =
    by_two (λ m. Allows m e.core e.kind → KeepsOwn m e.core e.kind d)
    (own_in_two e.core d e.kind core small) m two can

-- over a run the own registers of a core are those of its last Set
pub run_keeps_own : (m : Machine) (events : List Event) (d : ℕ) → d < 2 → Safe m
    → AreOfTwoCores events → CanRun m events
    → own_registers (record_of (after_all m events) d)
    ≡ last_set d events (own_registers (record_of m d))
run_keeps_own m [] d small safe cores can = refl
run_keeps_own m (e ∷ events) d small safe cores can =
    run_keeps_own (after m e) events d small (event_keeps_safe m e cores.0 safe can.0) cores.1 can.1
    ∙ ap (last_set d events) (event_keeps_own m e d cores.0 small safe.two_cores can.0)

-- the last Set of two parts of a run
pub last_append : (c : ℕ) (front rest : List Event) (before : Regs)
    → last_set c (front ++ rest) before ≡ last_set c rest (last_set c front before)
last_append c [] rest before = refl
last_append c (e ∷ front) rest before =
    last_append c front rest (if e.core == c then set_by e.kind before else before)

-- a run keeps a safe machine safe
pub run_keeps_safe : (m : Machine) (events : List Event) → Safe m → AreOfTwoCores events
    → CanRun m events → Safe (after_all m events)
run_keeps_safe m [] safe cores can = safe
run_keeps_safe m (e ∷ events) safe cores can =
    run_keeps_safe (after m e) events (event_keeps_safe m e cores.0 safe can.0) cores.1 can.1

-- the events of a first part, and those after it, are of two cores
cores_split : (front rest : List Event) → AreOfTwoCores (front ++ rest)
    → AreOfTwoCores front × AreOfTwoCores rest
cores_split [] rest cores = (tt, cores)
cores_split (e ∷ front) rest cores = let parts =
    cores_split front rest cores.1 in ((cores.0, parts.0), parts.1)

-- a first part of a run can run, and then the rest can
run_split : (m : Machine) (front rest : List Event) → CanRun m (front ++ rest)
    → CanRun m front × CanRun (after_all m front) rest
run_split m [] rest can = (tt, can)
run_split m (e ∷ front) rest can = let parts =
    run_split (after m e) front rest can.1 in ((can.0, parts.0), parts.1)

-- from a safe machine, the machine that a first part of a run leads to is safe
front_safe : (m : Machine) (events front rest : List Event) → events ≡ front ++ rest → Safe m
    → AreOfTwoCores events → CanRun m events → Safe (after_all m front)
front_safe m events front rest split safe cores can =
    run_keeps_safe m front safe (cores_split front rest (subst AreOfTwoCores split cores)).0
    (run_split m front rest (subst (CanRun m) split can)).0

-- from a safe machine, each machine on the way is safe
way_safe : (m : Machine) (events : List Event) (there : Machine) → Safe m → AreOfTwoCores events
    → CanRun m events → Passes m events there → Safe there
way_safe m events there safe cores can way =
    subst Safe (sym way.reached) (front_safe m events way.front way.rest way.split safe cores can)

-- from a safe machine, at each fetch on the way nothing runs
way_fetches : (m : Machine) (events : List Event) (there : Machine) → Safe m → AreOfTwoCores events
    → CanRun m events → Fetches m events there → there.running ≡ None
way_fetches m events there safe cores can way =
    let fetch : Event = record { core = way.core; kind = Fetch way.space } in
    let small = (cores_split way.front (fetch ∷ way.rest) (subst AreOfTwoCores way.split cores)).1.0
    in
    let allowed = (run_split m way.front (fetch ∷ way.rest) (subst (CanRun m) way.split can)).1.0 in
    let at_front = front_safe m events way.front (fetch ∷ way.rest) way.split safe cores can in
    ap (λ s. s.running) way.reached
    ∙ fetch_is_idle (after_all m way.front) way.core way.space small at_front allowed

-- from a safe machine, where a core has nothing saved on the way, its own registers are in force
way_in_force : (m : Machine) (events : List Event) (there : Machine) (way : Passes m events there)
    (d : ℕ) → Safe m → AreOfTwoCores events → CanRun m events → d < 2 → HasNoneSaved there d
    → (record_of there d).regs ≡ last_set d way.front (own_registers (record_of m d))
way_in_force m events there way d safe cores can small none =
    let front_cores = (cores_split way.front way.rest (subst AreOfTwoCores way.split cores)).0 in
    let front_can = (run_split m way.front way.rest (subst (CanRun m) way.split can)).0 in
    none_saved (record_of there d) none
    ∙ ap (λ s. own_registers (record_of s d)) way.reached
    ∙ run_keeps_own m way.front d small safe front_cores front_can

-- every run from a safe machine is a safe run
pub safe_run : (m : Machine) (events : List Event) → Safe m → AreOfTwoCores events → CanRun m events
    → IsSafeRun m events
safe_run m events safe cores can = record {
  safe = λ there way. way_safe m events there safe cores can way;
  no_fetch_meets_a_step = λ there way. way_fetches m events there safe cores can way;
  masked_while_a_step_runs =
      λ there way. steps_run_masked there (way_safe m events there safe cores can way);
  keeps_own = λ d small. run_keeps_own m events d small safe cores can;
  own_in_force = λ there way d small none. way_in_force m events there way d safe cores can small
      none;
}
