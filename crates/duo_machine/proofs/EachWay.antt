-- Every way leads home: each event that winds up brings home one nearer, and where none is left both
-- cores are home.
use Rattle.std.proofs.Common.{◌≡◌, ◌≢◌, ℕ, zero, suc, ◌+◌, ◌≤◌, ◌<◌, ◌∙◌, ap, sym, inl, inr, ◌⊎◌, List, [], ◌∷◌, length, Option, Some, None, arith, refl}
use Rattle.std.specs.Prelude.{IsSome, IsNone}
use Rattle.core_state.specs.declared.registers.Regs.{Regs}
use Rattle.core_state.specs.declared.registers.Record.{Record}
use Rattle.duo_machine.specs.declared.machine.Gate.{Gate}
use Rattle.duo_machine.specs.declared.machine.Gate.TheVariants.{Run, Asked}
use Rattle.duo_machine.specs.declared.machine.Phase.{Phase}
use Rattle.duo_machine.specs.declared.machine.Phase.TheVariants.{Resting, Running, Owning, Asking, Quiet, Parked}
use Rattle.duo_machine.specs.declared.machine.Machine.{Machine}
use Rattle.duo_machine.specs.declared.events.Kind.{Kind}
use Rattle.duo_machine.specs.declared.events.Kind.TheVariants.{Start, Rest, Take, Give, Save, Back, Hold, Ask, Park, See, Begin, Done, End, Leave, Set, Fetch}
use Rattle.duo_machine.specs.declared.events.Event.{Event}
use Rattle.duo_machine.specs.Machine.{gate_of, phase_of, record_of, own_of}
use Rattle.duo_machine.specs.Safe.{SafeAt, Safe}
use Rattle.duo_machine.specs.Table.{Allows, changed, after}
use Rattle.duo_machine.specs.Runs.{after_all}
use Rattle.duo_machine.specs.WaysOut.{IsWindingUp, WindsUp, WindUp, IsHome, LeadHome}
use Rattle.duo_machine.proofs.StepKeeps.{of_two, by_two, event_keeps_safe}
use Rattle.duo_machine.proofs.Waits.{saved_or_none, runs_or_not}
use Rattle.duo_machine.proofs.WayHome.{winding_keeps_own, IsCalm, GoesHome, goes_home, AtHome, at_home}

-- 1 where the first holds
one_of : {A B : Type 0} → A ⊎ B → ℕ
one_of (inl x) = 1
one_of (inr y) = 0

-- how many events a running core is from home
from_running : Gate → Option Regs → ℕ
from_running Asked None = 4
from_running Asked (Some own) = 3
from_running gate None = 0
from_running gate (Some own) = 1

-- at most four
running_small : (gate : Gate) (saved : Option Regs) → from_running gate saved ≤ 4
unfolding from_running
running_small Asked None = omega arith
running_small Asked (Some own) = omega arith
running_small gate None = omega arith
running_small gate (Some own) = omega arith

-- how many events of the two cores are a core's share of the way home
far : ℕ → Gate → Phase → Option Regs → Option ℕ → ℕ
far c gate Resting saved running = 2
far c gate Running saved running = from_running gate saved
far c gate Owning saved running = 1 + one_of (saved_or_none saved)
far c gate Asking saved running = 4
far c gate Quiet saved running = 3 + one_of (runs_or_not c running)
far c gate Parked saved running = 2

-- how far a machine is from home
far_of : Machine → ℕ
far_of m =
    far 0 (gate_of m 0) (phase_of m 0) (record_of m 0).saved m.running
    + far 1 (gate_of m 1) (phase_of m 1) (record_of m 1).saved m.running

-- 1, as the first holds
is_one : {A : Type 0} (t : A ⊎ (A → ⊥)) → A → one_of t ≡ 1
unfolding one_of
is_one (inl x) held = refl
is_one (inr fails) held = absurd (fails held)

-- 0, as the first fails
is_none : {A : Type 0} (t : A ⊎ (A → ⊥)) → (A → ⊥) → one_of t ≡ 0
unfolding one_of
is_none (inl x) fails = absurd (fails x)
is_none (inr y) fails = refl

-- at most 1
at_most_one : {A B : Type 0} (t : A ⊎ B) → one_of t ≤ 1
unfolding one_of
at_most_one (inl x) = omega arith
at_most_one (inr y) = omega arith

-- a core is at most four events from home
far_small : (c : ℕ) (gate : Gate) (phase : Phase) (saved : Option Regs) (running : Option ℕ)
    → far c gate phase saved running ≤ 4
unfolding far
far_small c gate Resting saved running = omega arith
far_small c gate Running saved running = running_small gate saved
far_small c gate Owning saved running =
    let small = at_most_one (saved_or_none saved) in omega arith
far_small c gate Asking saved running = omega arith
far_small c gate Quiet saved running =
    let small = at_most_one (runs_or_not c running) in omega arith
far_small c gate Parked saved running = omega arith

-- so a machine is at most eight
far_of_small : (m : Machine) → far_of m ≤ 8
unfolding far_of
far_of_small m =
    let zero_far = far_small 0 (gate_of m 0) (phase_of m 0) (record_of m 0).saved m.running in
    let one_far = far_small 1 (gate_of m 1) (phase_of m 1) (record_of m 1).saved m.running in
    omega arith

-- nothing is saved: no event for that
none_is : (saved : Option Regs) → IsNone saved → one_of (saved_or_none saved) ≡ 0
unfolding one_of
none_is saved none = by (saved_or_none saved)
  where
    by : (t : IsSome saved ⊎ IsNone saved) → one_of t ≡ 0
    by (inl some) = absurd (cc)
    by (inr held) = refl

-- something is saved: one event for that
some_is : (saved : Option Regs) → IsSome saved → one_of (saved_or_none saved) ≡ 1
unfolding one_of
some_is saved some = by (saved_or_none saved)
  where
    by : (t : IsSome saved ⊎ IsNone saved) → one_of t ≡ 1
    by (inl held) = refl
    by (inr none) = absurd (cc)

-- a core that runs, is not asked and has nothing saved, is home
from_run_by : (saved : Option Regs) → IsNone saved → from_running Run saved ≡ 0
unfolding from_running
from_run_by None held = refl
from_run_by (Some own) held = absurd (cc)

-- one that has something saved puts it back
from_masked_run_by : (saved : Option Regs) → IsSome saved → from_running Run saved ≡ 1
unfolding from_running
from_masked_run_by (Some own) held = refl
from_masked_run_by None held = absurd (cc)

-- one that is asked saves, parks, leaves and puts back
from_asked_by : (saved : Option Regs) → IsNone saved → from_running Asked saved ≡ 4
unfolding from_running
from_asked_by None held = refl
from_asked_by (Some own) held = absurd (cc)

-- or parks, leaves and puts back
from_masked_asked_by : (saved : Option Regs) → IsSome saved → from_running Asked saved ≡ 3
unfolding from_running
from_masked_asked_by (Some own) held = refl
from_masked_asked_by None held = absurd (cc)

-- a core with this gate, phase and record is so many events from home
record IsFar
    (c : ℕ) (gate : Gate) (phase : Phase) (saved : Option Regs) (running : Option ℕ) (n : ℕ)
    : Type 0 where
  is : far c gate phase saved running ≡ n

module _ {c : ℕ} {gate : Gate} {phase : Phase} {saved : Option Regs} {running : Option ℕ} where
  -- a core that rests starts and puts back
  from_resting : phase ≡ Resting → IsFar c gate phase saved running 2
  unfolding far
  from_resting is = record {
    is = ap (λ p. far c gate p saved running) is;
  }

  -- a parked core leaves and puts back
  from_parked : phase ≡ Parked → IsFar c gate phase saved running 2
  unfolding far
  from_parked is = record {
    is = ap (λ p. far c gate p saved running) is;
  }

  -- a core that asks sees, ends, puts back and gives
  from_asking : phase ≡ Asking → IsFar c gate phase saved running 4
  unfolding far
  from_asking is = record {
    is = ap (λ p. far c gate p saved running) is;
  }

  -- a quiet core whose step runs ends that first
  from_step : phase ≡ Quiet → running ≡ Some c → IsFar c gate phase saved running 4
  unfolding far
  from_step is runs = record {
    is = ap (λ p. far c gate p saved running) is
        ∙ ap (λ n. 3 + n) (is_one (runs_or_not c running) runs);
  }

  -- a quiet core ends, puts back and gives
  from_quiet : phase ≡ Quiet → running ≢ Some c → IsFar c gate phase saved running 3
  unfolding far
  from_quiet is idle = record {
    is = ap (λ p. far c gate p saved running) is
        ∙ ap (λ n. 3 + n) (is_none (runs_or_not c running) idle);
  }

  -- an owner gives
  from_owning : phase ≡ Owning → IsNone saved → IsFar c gate phase saved running 1
  unfolding far
  from_owning is none = record {
    is = ap (λ p. far c gate p saved running) is ∙ ap (λ n. 1 + n) (none_is saved none);
  }

  -- a masked owner puts back first
  from_masked_owning : phase ≡ Owning → IsSome saved → IsFar c gate phase saved running 2
  unfolding far
  from_masked_owning is some = record {
    is = ap (λ p. far c gate p saved running) is ∙ ap (λ n. 1 + n) (some_is saved some);
  }

  -- a core that runs with nothing saved is home
  from_run : phase ≡ Running → gate ≡ Run → IsNone saved → IsFar c gate phase saved running 0
  unfolding far
  from_run is at held = record {
    is = ap (λ p. far c gate p saved running) is ∙ ap (λ g. from_running g saved) at
        ∙ from_run_by saved held;
  }

  -- a masked one puts back
  from_masked_run : phase ≡ Running → gate ≡ Run → IsSome saved → IsFar c gate phase saved running 1
  unfolding far
  from_masked_run is at held = record {
    is = ap (λ p. far c gate p saved running) is ∙ ap (λ g. from_running g saved) at
        ∙ from_masked_run_by saved held;
  }

  -- one that is asked saves, parks, leaves and puts back
  from_asked : phase ≡ Running → gate ≡ Asked → IsNone saved → IsFar c gate phase saved running 4
  unfolding far
  from_asked is at held = record {
    is = ap (λ p. far c gate p saved running) is ∙ ap (λ g. from_running g saved) at
        ∙ from_asked_by saved held;
  }

  -- or parks, leaves and puts back
  from_masked_asked : phase ≡ Running → gate ≡ Asked → IsSome saved → IsFar c gate phase saved running 3
  unfolding far
  from_masked_asked is at held = record {
    is = ap (λ p. far c gate p saved running) is ∙ ap (λ g. from_running g saved) at
        ∙ from_masked_asked_by saved held;
  }

-- one fewer
down : {c n : ℕ} {gate gate' : Gate} {phase phase' : Phase} {saved saved' : Option Regs}
    {running running' : Option ℕ} → IsFar c gate phase saved running n
    → IsFar c gate' phase' saved' running' (suc n)
    → suc (far c gate phase saved running) ≡ far c gate' phase' saved' running'
down new old = ap suc new.is ∙ sym old.is

-- core 0 is one nearer, and core 1 as far as before
nearer : {a b a' b' : ℕ} → suc a ≡ a' → b ≡ b' → suc (a + b) ≡ a' + b'
nearer mine theirs = omega arith

-- core 1 is one nearer, and core 0 as far as before
nearer_back : {a b a' b' : ℕ} → suc b ≡ b' → a ≡ a' → suc (a + b) ≡ a' + b'
nearer_back mine theirs = omega arith

module _ {c o lock : ℕ} {gate gate' : Gate} {phase phase' : Phase}
    {registers registers' : Record} {running : Option ℕ}
    (apart : c + o ≡ 1)
    (mine : SafeAt c lock gate phase phase' registers running)
    (theirs : SafeAt o lock gate' phase' phase registers' running)
  where
    -- the gate of an owner
    owner_gate : phase ≡ Owning → gate ≡ Run
    owner_gate owns = grind arith

    -- the gate of a core that runs and is not asked to park
    running_gate : phase ≡ Running → gate ≢ Asked → gate ≡ Run
    running_gate runs calm = grind arith

    -- no step of a core that asks runs
    asking_idle : phase ≡ Asking → running ≢ Some c
    asking_idle asks = λ is. absurd (grind arith)

    -- beside a quiet core the other one is parked or rests
    kept_away : phase ≡ Quiet → (phase' ≡ Parked) ⊎ (phase' ≡ Resting)
    kept_away quiet = grind arith

-- a core that is parked or rests is as far from home whatever its gate says and whichever step runs
as_far : (c : ℕ) (gate gate' : Gate) (phase : Phase) (saved : Option Regs)
    (running running' : Option ℕ) → (phase ≡ Parked) ⊎ (phase ≡ Resting)
    → far c gate phase saved running ≡ far c gate' phase saved running'
as_far c gate gate' phase saved running running' (inl parked) =
    let here : IsFar c gate phase saved running 2 = from_parked parked in
    let there : IsFar c gate' phase saved running' 2 = from_parked parked in
    here.is ∙ sym there.is
as_far c gate gate' phase saved running running' (inr rests) =
    let here : IsFar c gate phase saved running 2 = from_resting rests in
    let there : IsFar c gate' phase saved running' 2 = from_resting rests in
    here.is ∙ sym there.is

-- no event is left that winds up
abbrev IsStuck : Machine → Type 0
IsStuck m = (e : Event) → ¬ WindsUp m e

-- so no event that winds up may happen
stops : {m : Machine} → IsStuck m → (c : ℕ) (kind : Kind) → c < 2 → Allows m c kind
    → IsWindingUp m c kind → ⊥
stops stuck c kind core can winds_up =
    stuck (record { core = c; kind = kind })
    (record { core = core; can = can; winds_up = winds_up })

-- each event of core 0 that winds up brings home one nearer
zero_lowers : (kind : Kind) {lock : ℕ} {gate gate' : Gate} {phase phase' : Phase}
    {registers registers' : Record} {running : Option ℕ}
    → Safe (of_two lock gate gate' phase phase' registers registers' running)
    → Allows (of_two lock gate gate' phase phase' registers registers' running) 0 kind
    → IsWindingUp (of_two lock gate gate' phase phase' registers registers' running) 0 kind
    → suc (far_of (changed (of_two lock gate gate' phase phase' registers registers' running) 0 kind))
    ≡ far_of (of_two lock gate gate' phase phase' registers registers' running)
unfolding far_of
zero_lowers Start s can w =
    nearer (down (from_masked_run refl refl (s.zero_safe.registers_fit.saved (inl can.0)))
    (from_resting can.0)) refl
zero_lowers Rest s can w = absurd w
zero_lowers Take s can w = absurd w
zero_lowers Give s can w =
    nearer (down (from_run refl (owner_gate refl s.zero_safe s.one_safe can.0) can.1)
    (from_owning can.0 can.1)) refl
zero_lowers Save s can w =
    let runs = s.zero_safe.gate_fits.asked w in
    nearer (down (from_masked_asked runs w refl) (from_asked runs w can.1)) refl
zero_lowers Back s can w = elim can.0 [
  | inl runs ↦
      let at = running_gate refl s.zero_safe s.one_safe runs w in
      nearer (down (from_run runs at refl) (from_masked_run runs at can.1)) refl
  | inr owns ↦
      nearer (down (from_owning owns refl) (from_masked_owning owns can.1)) refl
]
zero_lowers Hold s can w = absurd w
zero_lowers Ask s can w = absurd w
zero_lowers Park s can w =
    nearer (down (from_parked refl) (from_masked_asked can.0 can.2 can.1)) refl
zero_lowers See s can w =
    nearer (down (from_quiet refl (asking_idle refl s.zero_safe s.one_safe can.0)) (from_asking can.0))
    refl
zero_lowers Begin s can w = absurd w
zero_lowers Done s can w =
    nearer (down (from_quiet can.0 (λ is. absurd (cc))) (from_step can.0 can.1))
    (as_far _ _ _ _ _ _ _ (kept_away refl s.zero_safe s.one_safe can.0))
zero_lowers End s can w =
    nearer (down (from_masked_owning refl (s.zero_safe.registers_fit.saved (inr (inr (inr can.0)))))
    (from_quiet can.0 can.1)) (as_far _ _ _ _ _ _ _ (kept_away refl s.zero_safe s.one_safe can.0))
zero_lowers Leave s can w =
    nearer (down (from_masked_run refl refl (s.zero_safe.registers_fit.saved (inr (inl can.0))))
    (from_parked can.0)) refl
zero_lowers (Set registers) s can w = absurd w
zero_lowers (Fetch space) s can w = absurd w

-- where no event is left core 0 is not quiet
zero_not_quiet : {lock : ℕ} {gate gate' : Gate} {phase phase' : Phase}
    {registers registers' : Record} {running : Option ℕ}
    → Safe (of_two lock gate gate' phase phase' registers registers' running)
    → IsStuck (of_two lock gate gate' phase phase' registers registers' running) → phase ≢ Quiet
zero_not_quiet {running = running} s stuck quiet = elim (runs_or_not 0 running) [
  | inl runs ↦ stops stuck 0 Done (omega arith) (quiet, runs) tt
  | inr idle ↦
      stops stuck 0 End (omega arith)
      (quiet, idle, s.one_safe.gate_has_reason.quiet quiet) tt
]

-- and does not ask
zero_not_asking : {lock : ℕ} {gate gate' : Gate} {phase phase' : Phase}
    {registers registers' : Record} {running : Option ℕ}
    → Safe (of_two lock gate gate' phase phase' registers registers' running)
    → IsStuck (of_two lock gate gate' phase phase' registers registers' running) → phase ≢ Asking
zero_not_asking {registers = registers} {registers' = registers'} s stuck asks =
    elim (s.one_safe.gate_has_reason.asking asks) [
      | inl asked ↦
          let runs = s.one_safe.gate_fits.asked asked in
          elim (saved_or_none registers'.saved) [
            | inl saved ↦ stops stuck 1 Park (omega arith) (runs, saved, asked) tt
            | inr none ↦ stops stuck 1 Save (omega arith) (inl runs, none) asked
          ]
      | inr parked ↦ stops stuck 0 See (omega arith) (asks, parked) tt
    ]

-- and so it is home
zero_arrived : {lock : ℕ} {gate gate' : Gate} {phase phase' : Phase}
    {registers registers' : Record} {running : Option ℕ}
    → IsStuck (of_two lock gate gate' phase phase' registers registers' running)
    → GoesHome 0 lock gate phase registers → AtHome gate phase registers
zero_arrived {registers = registers} {registers' = registers'} stuck goes = elim goes [
  | inl rests ↦ absurd (stops stuck 0 Start (omega arith) (rests.0, rests.1) tt)
  | inr (inl parked) ↦ absurd (stops stuck 0 Leave (omega arith) (parked.0, parked.1) tt)
  | inr (inr (inl runs)) ↦ elim (saved_or_none registers.saved) [
    | inl saved ↦
        absurd (stops stuck 0 Back (omega arith) (inl runs.0, saved) (λ asked. absurd (cc)))
    | inr none ↦ record { phase_is = runs.0; gate_is = runs.1; none = none }
  ]
  | inr (inr (inr owns)) ↦ elim (saved_or_none registers.saved) [
    | inl saved ↦
        absurd (stops stuck 0 Back (omega arith) (inr owns.0, saved) (λ asked. absurd (cc)))
    | inr none ↦
        absurd (stops stuck 0 Give (omega arith) (owns.0, none, owns.2) tt)
  ]
]

-- each event of core 1 that winds up brings home one nearer
one_lowers : (kind : Kind) {lock : ℕ} {gate gate' : Gate} {phase phase' : Phase}
    {registers registers' : Record} {running : Option ℕ}
    → Safe (of_two lock gate gate' phase phase' registers registers' running)
    → Allows (of_two lock gate gate' phase phase' registers registers' running) 1 kind
    → IsWindingUp (of_two lock gate gate' phase phase' registers registers' running) 1 kind
    → suc (far_of (changed (of_two lock gate gate' phase phase' registers registers' running) 1 kind))
    ≡ far_of (of_two lock gate gate' phase phase' registers registers' running)
unfolding far_of
one_lowers Start s can w =
    nearer_back (down (from_masked_run refl refl (s.one_safe.registers_fit.saved (inl can.0)))
    (from_resting can.0)) refl
one_lowers Rest s can w = absurd w
one_lowers Take s can w = absurd w
one_lowers Give s can w =
    nearer_back (down (from_run refl (owner_gate refl s.one_safe s.zero_safe can.0) can.1)
    (from_owning can.0 can.1)) refl
one_lowers Save s can w =
    let runs = s.one_safe.gate_fits.asked w in
    nearer_back (down (from_masked_asked runs w refl) (from_asked runs w can.1)) refl
one_lowers Back s can w = elim can.0 [
  | inl runs ↦
      let at = running_gate refl s.one_safe s.zero_safe runs w in
      nearer_back (down (from_run runs at refl) (from_masked_run runs at can.1)) refl
  | inr owns ↦
      nearer_back (down (from_owning owns refl) (from_masked_owning owns can.1)) refl
]
one_lowers Hold s can w = absurd w
one_lowers Ask s can w = absurd w
one_lowers Park s can w =
    nearer_back (down (from_parked refl) (from_masked_asked can.0 can.2 can.1)) refl
one_lowers See s can w =
    nearer_back (down (from_quiet refl (asking_idle refl s.one_safe s.zero_safe can.0)) (from_asking can.0))
    refl
one_lowers Begin s can w = absurd w
one_lowers Done s can w =
    nearer_back (down (from_quiet can.0 (λ is. absurd (cc))) (from_step can.0 can.1))
    (as_far _ _ _ _ _ _ _ (kept_away refl s.one_safe s.zero_safe can.0))
one_lowers End s can w =
    nearer_back (down (from_masked_owning refl (s.one_safe.registers_fit.saved (inr (inr (inr can.0)))))
    (from_quiet can.0 can.1)) (as_far _ _ _ _ _ _ _ (kept_away refl s.one_safe s.zero_safe can.0))
one_lowers Leave s can w =
    nearer_back (down (from_masked_run refl refl (s.one_safe.registers_fit.saved (inr (inl can.0))))
    (from_parked can.0)) refl
one_lowers (Set registers) s can w = absurd w
one_lowers (Fetch space) s can w = absurd w

-- where no event is left core 1 is not quiet
one_not_quiet : {lock : ℕ} {gate gate' : Gate} {phase phase' : Phase}
    {registers registers' : Record} {running : Option ℕ}
    → Safe (of_two lock gate gate' phase phase' registers registers' running)
    → IsStuck (of_two lock gate gate' phase phase' registers registers' running) → phase' ≢ Quiet
one_not_quiet {running = running} s stuck quiet = elim (runs_or_not 1 running) [
  | inl runs ↦ stops stuck 1 Done (omega arith) (quiet, runs) tt
  | inr idle ↦
      stops stuck 1 End (omega arith)
      (quiet, idle, s.zero_safe.gate_has_reason.quiet quiet) tt
]

-- and does not ask
one_not_asking : {lock : ℕ} {gate gate' : Gate} {phase phase' : Phase}
    {registers registers' : Record} {running : Option ℕ}
    → Safe (of_two lock gate gate' phase phase' registers registers' running)
    → IsStuck (of_two lock gate gate' phase phase' registers registers' running) → phase' ≢ Asking
one_not_asking {registers = registers} {registers' = registers'} s stuck asks =
    elim (s.zero_safe.gate_has_reason.asking asks) [
      | inl asked ↦
          let runs = s.zero_safe.gate_fits.asked asked in
          elim (saved_or_none registers.saved) [
            | inl saved ↦ stops stuck 0 Park (omega arith) (runs, saved, asked) tt
            | inr none ↦ stops stuck 0 Save (omega arith) (inl runs, none) asked
          ]
      | inr parked ↦ stops stuck 1 See (omega arith) (asks, parked) tt
    ]

-- and so it is home
one_arrived : {lock : ℕ} {gate gate' : Gate} {phase phase' : Phase}
    {registers registers' : Record} {running : Option ℕ}
    → IsStuck (of_two lock gate gate' phase phase' registers registers' running)
    → GoesHome 1 lock gate' phase' registers' → AtHome gate' phase' registers'
one_arrived {registers = registers} {registers' = registers'} stuck goes = elim goes [
  | inl rests ↦ absurd (stops stuck 1 Start (omega arith) (rests.0, rests.1) tt)
  | inr (inl parked) ↦ absurd (stops stuck 1 Leave (omega arith) (parked.0, parked.1) tt)
  | inr (inr (inl runs)) ↦ elim (saved_or_none registers'.saved) [
    | inl saved ↦
        absurd (stops stuck 1 Back (omega arith) (inl runs.0, saved) (λ asked. absurd (cc)))
    | inr none ↦ record { phase_is = runs.0; gate_is = runs.1; none = none }
  ]
  | inr (inr (inr owns)) ↦ elim (saved_or_none registers'.saved) [
    | inl saved ↦
        absurd (stops stuck 1 Back (omega arith) (inr owns.0, saved) (λ asked. absurd (cc)))
    | inr none ↦
        absurd (stops stuck 1 Give (omega arith) (owns.0, none, owns.2) tt)
  ]
]

-- where no event is left that winds up, both cores are home
stuck_of_two : (lock : ℕ) (gate gate' : Gate) (phase phase' : Phase) (registers registers' : Record)
    (running : Option ℕ) → Safe (of_two lock gate gate' phase phase' registers registers' running)
    → IsStuck (of_two lock gate gate' phase phase' registers registers' running)
    → IsHome (of_two lock gate gate' phase phase' registers registers' running) (of_two lock gate gate' phase phase' registers registers' running)
stuck_of_two lock gate gate' phase phase' registers registers' running s stuck =
    let calm : IsCalm phase = (zero_not_quiet s stuck, zero_not_asking s stuck) in
    let calm' : IsCalm phase' = (one_not_quiet s stuck, one_not_asking s stuck) in
    at_home s (zero_arrived stuck (goes_home refl s.zero_safe s.one_safe calm calm'))
    (one_arrived stuck (goes_home refl s.one_safe s.zero_safe calm' calm))

-- so it is of every safe machine
stuck_is_home : (m : Machine) → Safe m → IsStuck m → IsHome m m
stuck_is_home m safe stuck =
    by_two (λ m. Safe m → IsStuck m → IsHome m m) stuck_of_two m safe.two_cores safe stuck

-- each event that winds up brings home one nearer
lowers : (m : Machine) (e : Event) → Safe m → WindsUp m e → suc (far_of (after m e)) ≡ far_of m
lowers m e safe w = by_core e.core e.kind w.core w.can w.winds_up
  where
    by_core : (c : ℕ) (kind : Kind) → c < 2 → Allows m c kind → IsWindingUp m c kind
        → suc (far_of (changed m c kind)) ≡ far_of m
    by_core zero kind small can w =
        by_two
        (λ m. Safe m → Allows m 0 kind → IsWindingUp m 0 kind
        → suc (far_of (changed m 0 kind)) ≡ far_of m)
        (λ lock g g' p p' r r' running. zero_lowers kind) m safe.two_cores safe can w
    by_core (suc zero) kind small can w =
        by_two
        (λ m. Safe m → Allows m 1 kind → IsWindingUp m 1 kind
        → suc (far_of (changed m 1 kind)) ≡ far_of m)
        (λ lock g g' p p' r r' running. one_lowers kind) m safe.two_cores safe can w
    by_core (suc (suc c)) kind small can w = absurd (omega arith)

-- what holds behind events that wind up: the machine is safe, as many events nearer home, and each
-- core's own registers are as before
record IsNearer (m : Machine) (events : List Event) : Type 0 where
  safe : Safe (after_all m events)
  nearer : length events + far_of (after_all m events) ≡ far_of m
  keeps_own : (d : ℕ) → d < 2 → own_of (after_all m events) d ≡ own_of m d

-- that holds of all events that wind up
brings_nearer : (m : Machine) (events : List Event) → Safe m → WindUp m events → IsNearer m events
brings_nearer m [] safe wind = record {
  safe = safe;
  nearer = omega arith;
  keeps_own = λ d small. refl;
}
brings_nearer m (e ∷ events) safe wind =
    let w = wind.0 in
    let there = brings_nearer (after m e) events (event_keeps_safe m e w.core safe w.can) wind.1 in
    record {
      safe = there.safe;
      nearer = let one = lowers m e safe w in let others = there.nearer in omega arith;
      keeps_own = λ d small. there.keeps_own d small
          ∙ winding_keeps_own m e safe w d small;
    }

-- all events that wind up lead home
pub way_leads_home : (m : Machine) (events : List Event) → Safe m → WindUp m events
    → LeadHome m events
way_leads_home m events safe wind =
    let there = brings_nearer m events safe wind in
    record {
      few = let small = far_of_small m in let nearer = there.nearer in omega arith;
      home = λ stuck.
          let home = stuck_is_home (after_all m events) there.safe stuck in
          record {
            cores = λ c small. let core = home.cores c small in record {
              phase = core.phase;
              gate = core.gate;
              none_saved = core.none_saved;
              in_force = core.in_force ∙ there.keeps_own c small;
            };
            keeps_own = there.keeps_own;
            free = home.free;
            idle = home.idle;
          };
    }
