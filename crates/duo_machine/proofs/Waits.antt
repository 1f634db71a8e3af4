-- Each wait ends: what the other core does, by cases on what it is doing.
use Rattle.std.proofs.Common.{◌≡◌, ◌≢◌, ℕ, zero, suc, ◌+◌, ◌≤◌, ◌<◌, ap, inl, inr, ◌⊎◌, List, [], ◌∷◌, Option, Some, None, arith, refl}
use Rattle.std.specs.Prelude.{IsSome, IsNone}
use Rattle.core_state.specs.declared.registers.Regs.{Regs}
use Rattle.core_state.specs.declared.registers.Record.{Record}
use Rattle.duo_machine.specs.declared.machine.Gate.{Gate}
use Rattle.duo_machine.specs.declared.machine.Gate.TheVariants.{Rest as AtRest, Run, Asked, Parked as AtParked, Freed}
use Rattle.duo_machine.specs.declared.machine.Phase.{Phase}
use Rattle.duo_machine.specs.declared.machine.Phase.TheVariants.{Running, Owning, Asking, Quiet, Parked}
use Rattle.duo_machine.specs.declared.machine.Machine.{Machine}
use Rattle.duo_machine.specs.declared.events.Kind.{Kind}
use Rattle.duo_machine.specs.declared.events.Kind.TheVariants.{Start, Rest, Take, Give, Save, Back, Hold, Ask, Park, See, Begin, Done, End, Leave, Set, Fetch}
use Rattle.duo_machine.specs.declared.events.Event.{Event}
use Rattle.duo_machine.specs.Machine.{other, gate_of, phase_of, KeepsAway, let_go}
use Rattle.duo_machine.specs.Safe.{SafeAt, Safe}
use Rattle.duo_machine.specs.Table.{Allows, changed, after, HasSaved, HasNoneSaved}
use Rattle.duo_machine.specs.WaysOut.{IsWindingUp, WindsUp, IsWayOut, OtherBrings, HasToPark, WaitsEnd}
use Rattle.duo_machine.proofs.StepKeeps.{of_two, by_two}

-- no event is a way out
pub no_event : {most : ℕ} {m : Machine} → IsWayOut most m []
no_event = record { wind_up = tt; few = omega arith }

-- one event in front of a way out
pub in_front : {most : ℕ} {m : Machine} {way : List Event} (e : Event) → WindsUp m e
    → IsWayOut most (after m e) way → IsWayOut (suc most) m (e ∷ way)
in_front e winds_up rest = record {
  wind_up = (winds_up, rest.wind_up);
  few = let few = rest.few in omega arith;
}

-- a way out of few events is one of at most more
pub at_most : {few most : ℕ} {m : Machine} {way : List Event} → few ≤ most → IsWayOut few m way
    → IsWayOut most m way
at_most below out = record {
  wind_up = out.wind_up;
  few = let few = out.few in omega arith;
}

-- what holds already is brought about by no event
now : {most c : ℕ} {m : Machine} {P : Machine → Type 0} → P m → OtherBrings most m c P
now holds = record { way = []; of_the_other = tt; is_way_out = no_event; wanted = holds }

-- one event of the other core in front of others
next : {most c : ℕ} {m : Machine} {P : Machine → Type 0} (kind : Kind)
    → IsWindingUp m (other c) kind → Allows m (other c) kind
    → OtherBrings most (changed m (other c) kind) c P → OtherBrings (suc most) m c P
next {c = c} kind winds_up can brings =
    let e : Event = record { core = other c; kind = kind } in
    record {
      way = e ∷ brings.way;
      of_the_other = (refl, brings.of_the_other);
      is_way_out =
          in_front e (record { core = omega arith; can = can; winds_up = winds_up })
          brings.is_way_out;
      wanted = brings.wanted;
    }

-- what at most so many events bring about, at most more bring about
more : {few most c : ℕ} {m : Machine} {P : Machine → Type 0} → few ≤ most → OtherBrings few m c P
    → OtherBrings most m c P
more below brings = record {
  way = brings.way;
  of_the_other = brings.of_the_other;
  is_way_out = at_most below brings.is_way_out;
  wanted = brings.wanted;
}

-- a quiet core lets the other one go, by End, or by Done and End where its step runs
ended : {c : ℕ} {m : Machine} {P : Machine → Type 0}
    → phase_of m (other c) ≡ Quiet → KeepsAway (gate_of m (other (other c)))
    → (m.running ≡ Some (other c)) ⊎ (m.running ≢ Some (other c))
    → P (changed m (other c) End)
    → P (changed (changed m (other c) Done) (other c) End)
    → OtherBrings 2 m c P
ended quiet away (inl runs) at_once later =
    next Done tt (quiet, runs) (next End tt (quiet, (λ is. absurd (cc)), away) (now later))
ended quiet away (inr idle) at_once later =
    more (omega arith) (next {most = 0} End tt (quiet, idle, away) (now at_once))

-- an owner gives the lock back, by Give, or by Back and Give where something is saved
given : {c : ℕ} {m : Machine} {P : Machine → Type 0}
    → phase_of m (other c) ≡ Owning → phase_of (changed m (other c) Back) (other c) ≡ Owning
    → gate_of m (other c) ≢ Asked → m.lock ≡ other c + 1
    → HasSaved m (other c) ⊎ HasNoneSaved m (other c)
    → HasNoneSaved (changed m (other c) Back) (other c) → P (changed m (other c) Give)
    → P (changed (changed m (other c) Back) (other c) Give) → OtherBrings 2 m c P
given owns still calm lock (inl saved) none at_once later =
    next Back calm (inr owns, saved) (next Give tt (still, none, lock) (now later))
given owns still calm lock (inr none) after at_once later =
    more (omega arith) (next {most = 0} Give tt (owns, none, lock) (now at_once))

-- something is saved, or nothing is
pub saved_or_none : (saved : Option Regs) → IsSome saved ⊎ IsNone saved
saved_or_none None = inr refl
saved_or_none (Some own) = inl refl

-- a step of a core runs, or none of it does
pub runs_or_not : (c : ℕ) (running : Option ℕ) → (running ≡ Some c) ⊎ (running ≢ Some c)
runs_or_not c None = inr (λ is. absurd (cc))
runs_or_not c (Some d) = elim (same_or_not d c) [
  | inl same ↦ inl (ap Some same)
  | inr apart ↦ inr (λ is. absurd (grind arith))
]
  where
    same_or_not : (a b : ℕ) → (a ≡ b) ⊎ (a ≢ b)
    same_or_not zero zero = inl refl
    same_or_not zero (suc b) = inr (λ is. absurd (omega arith))
    same_or_not (suc a) zero = inr (λ is. absurd (omega arith))
    same_or_not (suc a) (suc b) = elim (same_or_not a b) [
      | inl same ↦ inl (ap suc same)
      | inr apart ↦ inr (λ is. absurd (omega arith))
    ]

module _ {c o lock : ℕ} {gate gate' : Gate} {phase phase' : Phase}
    {registers registers' : Record} {running : Option ℕ}
    (apart : c + o ≡ 1)
    (mine : SafeAt c lock gate phase phase' registers running)
    (theirs : SafeAt o lock gate' phase' phase registers' running)
  where
    -- where a core runs and is not asked to park, the lock is free or the other core owns it
    free_or_owned : phase ≡ Running → gate ≢ Asked
        → (lock ≡ 0) ⊎ ((lock ≡ o + 1) × (phase' ≡ Owning))
    free_or_owned runs calm = grind arith

    -- the gate of the other core, where a core owns the lock
    gate_beside_owner : phase ≡ Owning → (gate' ≡ AtRest) ⊎ (gate' ≡ Run) ⊎ (gate' ≡ Freed)
    gate_beside_owner owns = grind arith

    -- a core that has the lock is not asked to park
    pub inside_unasked : (phase' ≡ Owning) ⊎ (phase' ≡ Asking) → gate' ≢ Asked
    inside_unasked inside = λ is. absurd (grind arith)

    -- where the other core asks, it has saved its registers and runs no step
    pub asking_is_saved : phase' ≡ Asking → IsSome registers'.saved × (running ≢ Some o)
    asking_is_saved asks = (grind arith, λ is. absurd (grind arith))

-- a core that asks has no event before the other one parked
asking_waits : (m : Machine) (c : ℕ) (kind : Kind) → phase_of m c ≡ Asking
    → gate_of m (other c) ≡ Asked → ¬ Allows m c kind
asking_waits m c Start asks asked can = absurd (cc)
asking_waits m c Rest asks asked can = absurd (cc)
asking_waits m c Take asks asked can = absurd (cc)
asking_waits m c Give asks asked can = absurd (cc)
asking_waits m c Save asks asked can = absurd (grind arith)
asking_waits m c Back asks asked can = absurd (grind arith)
asking_waits m c Hold asks asked can = absurd (cc)
asking_waits m c Ask asks asked can = absurd (cc)
asking_waits m c Park asks asked can = absurd (cc)
asking_waits m c See asks asked can = absurd (cc)
asking_waits m c Begin asks asked can = absurd (cc)
asking_waits m c Done asks asked can = absurd (cc)
asking_waits m c End asks asked can = absurd (cc)
asking_waits m c Leave asks asked can = absurd (cc)
asking_waits m c (Set registers) asks asked can = absurd (cc)
asking_waits m c (Fetch space) asks asked can = absurd (cc)

-- core 0 has parked as core 1 asked: that one sees it and lets it go
zero_freed : {lock : ℕ} {gate' : Gate} {phase' : Phase} {registers registers' : Record}
    {running : Option ℕ} → phase' ≡ Asking → running ≢ Some 1
    → OtherBrings 2 (of_two lock AtParked gate' Parked phase' registers registers' running) 0
    (λ there. Allows there 0 Leave)
zero_freed asks idle = next See tt (asks, refl) (next End tt (refl, idle, inl refl) (now (refl, refl)))

-- and gives the lock back, so that core 0 may leave its gate and take the lock
zero_lock : {lock : ℕ} {gate' : Gate} {phase' : Phase} {registers registers' : Record}
    {running : Option ℕ} → phase' ≡ Asking → running ≢ Some 1 → IsSome registers'.saved → gate' ≢ Asked → lock ≡ 2
    → OtherBrings 4 (of_two lock AtParked gate' Parked phase' registers registers' running) 0
    (λ there. Allows there 0 Leave × Allows (changed there 0 Leave) 0 Take)
zero_lock asks idle saved calm lock =
    next See tt (asks, refl) (next End tt (refl, idle, inl refl)
    (next Back calm (inr refl, saved) (next Give tt (refl, refl, lock)
    (now ((refl, refl), (refl, refl))))))

-- core 0 is asked to park
zero_asked : (lock : ℕ) (gate gate' : Gate) (phase phase' : Phase) (registers' : Record)
    (running : Option ℕ) (regs : Regs) (saved : Option Regs)
    → Safe (of_two lock gate gate' phase phase' (record { regs = regs; saved = saved }) registers' running) → gate ≡ Asked
    → HasToPark (of_two lock gate gate' phase phase' (record { regs = regs; saved = saved }) registers' running) 0
zero_asked lock gate gate' phase phase' registers' running regs None s asked =
    let asks = s.zero_safe.gate_has_reason.asked asked in
    let runs = s.zero_safe.gate_fits.asked asked in
    let theirs = asking_is_saved refl s.zero_safe s.one_safe asks in
    record {
      other_waits = λ kind.
          asking_waits (of_two lock gate gate' phase phase' (record { regs = regs; saved = None }) registers' running) 1
          kind asks asked;
      parks =
          in_front (record { core = 0; kind = Save })
          (record { core = omega arith; can = (inl runs, refl); winds_up = asked })
          (in_front (record { core = 0; kind = Park })
          (record { core = omega arith; can = (runs, refl, asked); winds_up = tt }) no_event);
      freed = zero_freed asks theirs.1;
      lock = zero_lock asks theirs.1 theirs.0
          (inside_unasked refl s.zero_safe s.one_safe (inr asks)) (s.one_safe.lock_fits.owner.1 (inr (inl asks)));
    }
zero_asked lock gate gate' phase phase' registers' running regs (Some own) s asked =
    let asks = s.zero_safe.gate_has_reason.asked asked in
    let runs = s.zero_safe.gate_fits.asked asked in
    let theirs = asking_is_saved refl s.zero_safe s.one_safe asks in
    record {
      other_waits = λ kind.
          asking_waits (of_two lock gate gate' phase phase' (record { regs = regs; saved = (Some own) }) registers' running)
          1 kind asks asked;
      parks =
          in_front (record { core = 0; kind = Park })
          (record { core = omega arith; can = (runs, refl, asked); winds_up = tt }) no_event;
      freed = zero_freed asks theirs.1;
      lock = zero_lock asks theirs.1 theirs.0
          (inside_unasked refl s.zero_safe s.one_safe (inr asks)) (s.one_safe.lock_fits.owner.1 (inr (inl asks)));
    }

-- what core 0 waits for
zero_waits : (lock : ℕ) (gate gate' : Gate) (phase phase' : Phase) (registers registers' : Record)
    (running : Option ℕ) → Safe (of_two lock gate gate' phase phase' registers registers' running)
    → WaitsEnd (of_two lock gate gate' phase phase' registers registers' running) 0
zero_waits lock gate gate' phase phase' registers registers' running s = record {
  let_go = λ rests. elim (s.zero_safe.gate_fits.resting.0 rests) [
    | inl rest ↦ now (rests, rest)
    | inr held ↦
        ended (s.zero_safe.gate_has_reason.held held) (inr held) (runs_or_not 1 running)
        (rests, ap let_go held) (rests, ap let_go held)
  ];
  freed = λ parks. elim (s.zero_safe.gate_fits.parked.0 parks) [
    | inl parked ↦ elim (s.zero_safe.gate_has_reason.parked parked) [
      | inl asks ↦
          let theirs = asking_is_saved refl s.zero_safe s.one_safe asks in
          next See tt (asks, parked) (next End tt (refl, theirs.1, inl parked)
          (now (parks, ap let_go parked)))
      | inr quiet ↦
          ended quiet (inl parked) (runs_or_not 1 running)
          (parks, ap let_go parked) (parks, ap let_go parked)
    ]
    | inr freed ↦ now (parks, freed)
  ];
  parked = λ asks. elim (s.one_safe.gate_has_reason.asking asks) [
    | inl asked ↦
        let runs = s.one_safe.gate_fits.asked asked in
        elim (saved_or_none registers'.saved) [
          | inl saved ↦
              more (omega arith) (next {most = 0} Park tt (runs, saved, asked) (now (asks, refl)))
          | inr none ↦
              next Save asked (inl runs, none) (next Park tt (runs, refl, asked) (now (asks, refl)))
        ]
    | inr parked ↦ now (asks, parked)
  ];
  left = λ freed. next Leave tt (s.one_safe.gate_fits.parked.1 (inr freed), freed) (now refl);
  reached = λ owns saved. elim (gate_beside_owner refl s.zero_safe s.one_safe owns) [
    | inl rest ↦ now (inl (owns, saved, rest))
    | inr (inl run) ↦ now (inr (owns, saved, run))
    | inr (inr freed) ↦
        next Leave tt (s.one_safe.gate_fits.parked.1 (inr freed), freed)
        (now (inr (owns, saved, refl)))
  ];
  lock = λ runs calm. elim (free_or_owned refl s.zero_safe s.one_safe runs calm) [
    | inl free ↦ now (runs, free)
    | inr owned ↦
        given owned.1 owned.1 (inside_unasked refl s.zero_safe s.one_safe (inl owned.1)) owned.0
        (saved_or_none registers'.saved) refl (runs, refl) (runs, refl)
  ];
  asked = zero_asked lock gate gate' phase phase' registers' running registers.regs registers.saved s;
}

-- core 1 has parked as core 0 asked: that one sees it and lets it go
one_freed : {lock : ℕ} {gate : Gate} {phase : Phase} {registers registers' : Record}
    {running : Option ℕ} → phase ≡ Asking → running ≢ Some 0
    → OtherBrings 2 (of_two lock gate AtParked phase Parked registers registers' running) 1
    (λ there. Allows there 1 Leave)
one_freed asks idle = next See tt (asks, refl) (next End tt (refl, idle, inl refl) (now (refl, refl)))

-- and gives the lock back, so that core 1 may leave its gate and take the lock
one_lock : {lock : ℕ} {gate : Gate} {phase : Phase} {registers registers' : Record}
    {running : Option ℕ} → phase ≡ Asking → running ≢ Some 0 → IsSome registers.saved → gate ≢ Asked → lock ≡ 1
    → OtherBrings 4 (of_two lock gate AtParked phase Parked registers registers' running) 1
    (λ there. Allows there 1 Leave × Allows (changed there 1 Leave) 1 Take)
one_lock asks idle saved calm lock =
    next See tt (asks, refl) (next End tt (refl, idle, inl refl)
    (next Back calm (inr refl, saved) (next Give tt (refl, refl, lock)
    (now ((refl, refl), (refl, refl))))))

-- core 1 is asked to park
one_asked : (lock : ℕ) (gate gate' : Gate) (phase phase' : Phase) (registers : Record)
    (running : Option ℕ) (regs : Regs) (saved : Option Regs)
    → Safe (of_two lock gate gate' phase phase' registers (record { regs = regs; saved = saved }) running) → gate' ≡ Asked
    → HasToPark (of_two lock gate gate' phase phase' registers (record { regs = regs; saved = saved }) running) 1
one_asked lock gate gate' phase phase' registers running regs None s asked =
    let asks = s.one_safe.gate_has_reason.asked asked in
    let runs = s.one_safe.gate_fits.asked asked in
    let theirs = asking_is_saved refl s.one_safe s.zero_safe asks in
    record {
      other_waits = λ kind.
          asking_waits (of_two lock gate gate' phase phase' registers (record { regs = regs; saved = None }) running) 0
          kind asks asked;
      parks =
          in_front (record { core = 1; kind = Save })
          (record { core = omega arith; can = (inl runs, refl); winds_up = asked })
          (in_front (record { core = 1; kind = Park })
          (record { core = omega arith; can = (runs, refl, asked); winds_up = tt }) no_event);
      freed = one_freed asks theirs.1;
      lock = one_lock asks theirs.1 theirs.0
          (inside_unasked refl s.one_safe s.zero_safe (inr asks)) (s.zero_safe.lock_fits.owner.1 (inr (inl asks)));
    }
one_asked lock gate gate' phase phase' registers running regs (Some own) s asked =
    let asks = s.one_safe.gate_has_reason.asked asked in
    let runs = s.one_safe.gate_fits.asked asked in
    let theirs = asking_is_saved refl s.one_safe s.zero_safe asks in
    record {
      other_waits = λ kind.
          asking_waits (of_two lock gate gate' phase phase' registers (record { regs = regs; saved = (Some own) }) running)
          0 kind asks asked;
      parks =
          in_front (record { core = 1; kind = Park })
          (record { core = omega arith; can = (runs, refl, asked); winds_up = tt }) no_event;
      freed = one_freed asks theirs.1;
      lock = one_lock asks theirs.1 theirs.0
          (inside_unasked refl s.one_safe s.zero_safe (inr asks)) (s.zero_safe.lock_fits.owner.1 (inr (inl asks)));
    }

-- what core 1 waits for
one_waits : (lock : ℕ) (gate gate' : Gate) (phase phase' : Phase) (registers registers' : Record)
    (running : Option ℕ) → Safe (of_two lock gate gate' phase phase' registers registers' running)
    → WaitsEnd (of_two lock gate gate' phase phase' registers registers' running) 1
one_waits lock gate gate' phase phase' registers registers' running s = record {
  let_go = λ rests. elim (s.one_safe.gate_fits.resting.0 rests) [
    | inl rest ↦ now (rests, rest)
    | inr held ↦
        ended (s.one_safe.gate_has_reason.held held) (inr held) (runs_or_not 0 running)
        (rests, ap let_go held) (rests, ap let_go held)
  ];
  freed = λ parks. elim (s.one_safe.gate_fits.parked.0 parks) [
    | inl parked ↦ elim (s.one_safe.gate_has_reason.parked parked) [
      | inl asks ↦
          let theirs = asking_is_saved refl s.one_safe s.zero_safe asks in
          next See tt (asks, parked) (next End tt (refl, theirs.1, inl parked)
          (now (parks, ap let_go parked)))
      | inr quiet ↦
          ended quiet (inl parked) (runs_or_not 0 running)
          (parks, ap let_go parked) (parks, ap let_go parked)
    ]
    | inr freed ↦ now (parks, freed)
  ];
  parked = λ asks. elim (s.zero_safe.gate_has_reason.asking asks) [
    | inl asked ↦
        let runs = s.zero_safe.gate_fits.asked asked in
        elim (saved_or_none registers.saved) [
          | inl saved ↦
              more (omega arith) (next {most = 0} Park tt (runs, saved, asked) (now (asks, refl)))
          | inr none ↦
              next Save asked (inl runs, none) (next Park tt (runs, refl, asked) (now (asks, refl)))
        ]
    | inr parked ↦ now (asks, parked)
  ];
  left = λ freed. next Leave tt (s.zero_safe.gate_fits.parked.1 (inr freed), freed) (now refl);
  reached = λ owns saved. elim (gate_beside_owner refl s.one_safe s.zero_safe owns) [
    | inl rest ↦ now (inl (owns, saved, rest))
    | inr (inl run) ↦ now (inr (owns, saved, run))
    | inr (inr freed) ↦
        next Leave tt (s.zero_safe.gate_fits.parked.1 (inr freed), freed)
        (now (inr (owns, saved, refl)))
  ];
  lock = λ runs calm. elim (free_or_owned refl s.one_safe s.zero_safe runs calm) [
    | inl free ↦ now (runs, free)
    | inr owned ↦
        given owned.1 owned.1 (inside_unasked refl s.one_safe s.zero_safe (inl owned.1)) owned.0
        (saved_or_none registers.saved) refl (runs, refl) (runs, refl)
  ];
  asked = one_asked lock gate gate' phase phase' registers running registers'.regs registers'.saved s;
}

-- each wait of a core of a safe machine ends
pub waits_end : (m : Machine) (c : ℕ) → Safe m → c < 2 → WaitsEnd m c
waits_end m zero safe small =
    by_two (λ m. Safe m → WaitsEnd m 0) zero_waits m safe.two_cores safe
waits_end m (suc zero) safe small =
    by_two (λ m. Safe m → WaitsEnd m 1) one_waits m safe.two_cores safe
waits_end m (suc (suc c)) safe small = absurd (omega arith)
