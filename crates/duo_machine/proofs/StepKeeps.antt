-- Each event keeps a machine safe.
use Rattle.std.proofs.Common.{◌≡◌, ℕ, zero, suc, ◌+◌, ◌<◌, List, [], ◌∷◌, length, Option, None, arith, refl}
use Rattle.core_state.specs.declared.registers.Record.{Record}
use Rattle.core_state.specs.Registers.{starting}
use Rattle.duo_machine.specs.declared.machine.Gate.{Gate}
use Rattle.duo_machine.specs.declared.machine.Gate.TheVariants.{Rest as AtRest}
use Rattle.duo_machine.specs.declared.machine.Phase.{Phase}
use Rattle.duo_machine.specs.declared.machine.Phase.TheVariants.{Resting}
use Rattle.duo_machine.specs.declared.machine.Machine.{Machine}
use Rattle.duo_machine.specs.declared.events.Kind.{Kind}
use Rattle.duo_machine.specs.declared.events.Kind.TheVariants.{Start, Rest, Take, Give, Save, Back, Hold, Ask, Park, See, Begin, Done, End, Leave, Set, Fetch}
use Rattle.duo_machine.specs.declared.events.Event.{Event}
use Rattle.duo_machine.specs.Machine.{HasTwoCores, first_machine}
use Rattle.duo_machine.specs.Safe.{SafeAt, Safe}
use Rattle.duo_machine.specs.Table.{Allows, changed, CanHappen, after}
use Rattle.duo_machine.proofs.EachEvent.{SafeForBoth, start, rest, take, give, save, back, hold, ask, park, see, begin, done, end, leave, set_own}

-- the machine that has these two cores
abbrev pub of_two : ℕ → Gate → Gate → Phase → Phase → Record → Record → Option ℕ → Machine
of_two lock gate gate' phase phase' registers registers' running = record {
  lock = lock;
  gates = gate ∷ gate' ∷ [];
  phases = phase ∷ phase' ∷ [];
  records = registers ∷ registers' ∷ [];
  running = running;
}

-- what is shown of each machine that has two cores in its lists holds of each that has them by
-- count
pub by_two : (P : Machine → Type 0)
    → ((lock : ℕ) (gate gate' : Gate) (phase phase' : Phase) (registers registers' : Record)
    (running : Option ℕ) → P (of_two lock gate gate' phase phase' registers registers' running))
    → (m : Machine) → HasTwoCores m → P m
by_two P at m two = from m.lock m.gates m.phases m.records m.running two.gates two.phases
    two.records
  where
    from : (lock : ℕ) (gates : List Gate) (phases : List Phase) (records : List Record)
        (running : Option ℕ) → length gates ≡ 2 → length phases ≡ 2 → length records ≡ 2
        → P (record {
          lock = lock;
          gates = gates;
          phases = phases;
          records = records;
          running =
              running;
        })
    from lock (g ∷ g' ∷ []) (p ∷ p' ∷ []) (r ∷ r' ∷ []) running a b c =
        at lock g g' p p' r r' running
    from lock [] ps rs running a b c = absurd (omega arith)
    from lock (g ∷ []) ps rs running a b c = absurd (omega arith)
    from lock (g ∷ g' ∷ g'' ∷ gs) ps rs running a b c = absurd (omega arith)
    from lock gs [] rs running a b c = absurd (omega arith)
    from lock gs (p ∷ []) rs running a b c = absurd (omega arith)
    from lock gs (p ∷ p' ∷ p'' ∷ ps) rs running a b c = absurd (omega arith)
    from lock gs ps [] running a b c = absurd (omega arith)
    from lock gs ps (r ∷ []) running a b c = absurd (omega arith)
    from lock gs ps (r ∷ r' ∷ r'' ∷ rs) running a b c = absurd (omega arith)

-- a machine of two cores that is safe for both of them is safe, whichever core made the event
pair : {lock : ℕ} {gate gate' : Gate} {phase phase' : Phase} {registers registers' : Record}
    {running : Option ℕ}
    → SafeForBoth 0 1 lock gate gate' phase phase' registers registers' running
    → Safe (of_two lock gate gate' phase phase' registers registers' running)
pair both = record {
  two_cores = record { gates = refl; phases = refl; records = refl };
  zero_safe = both.0;
  one_safe = both.1;
}

pair_back : {lock : ℕ} {gate gate' : Gate} {phase phase' : Phase} {registers registers' : Record}
    {running : Option ℕ}
    → SafeForBoth 1 0 lock gate' gate phase' phase registers' registers running
    → Safe (of_two lock gate gate' phase phase' registers registers' running)
pair_back both = pair (both.1, both.0)

-- each event of core 0 keeps a machine of two cores safe
zero_keeps : (kind : Kind) {lock : ℕ} {gate gate' : Gate} {phase phase' : Phase}
    {registers registers' : Record} {running : Option ℕ}
    → Safe (of_two lock gate gate' phase phase' registers registers' running)
    → Allows (of_two lock gate gate' phase phase' registers registers' running) 0 kind
    → Safe (changed (of_two lock gate gate' phase phase' registers registers' running) 0 kind)
zero_keeps Start s g = pair (start refl s.zero_safe s.one_safe g.0 g.1)
zero_keeps Rest s g = pair (rest refl s.zero_safe s.one_safe g.0 g.1 g.2)
zero_keeps Take s g = pair (take refl s.zero_safe s.one_safe g.0 g.1)
zero_keeps Give s g = pair (give refl s.zero_safe s.one_safe g.0 g.1 g.2)
zero_keeps Save s g = pair (save refl s.zero_safe s.one_safe g.0 g.1)
zero_keeps Back s g = pair (back refl s.zero_safe s.one_safe g.0 g.1)
zero_keeps Hold s g = pair (hold refl s.zero_safe s.one_safe g.0 g.1 g.2)
zero_keeps Ask s g = pair (ask refl s.zero_safe s.one_safe g.0 g.1 g.2)
zero_keeps Park s g = pair (park refl s.zero_safe s.one_safe g.0 g.1 g.2)
zero_keeps See s g = pair (see refl s.zero_safe s.one_safe g.0 g.1)
zero_keeps Begin s g = pair (begin refl s.zero_safe s.one_safe g.0 g.1)
zero_keeps Done s g = pair (done refl s.zero_safe s.one_safe g.0 g.1)
zero_keeps End s g = pair (end refl s.zero_safe s.one_safe g.0 g.1 g.2)
zero_keeps Leave s g = pair (leave refl s.zero_safe s.one_safe g.0 g.1)
zero_keeps (Set registers) s g = pair (set_own refl s.zero_safe s.one_safe registers g.0 g.1 g.2)
zero_keeps (Fetch space) s g = s

-- each event of core 1 keeps a machine of two cores safe
one_keeps : (kind : Kind) {lock : ℕ} {gate gate' : Gate} {phase phase' : Phase}
    {registers registers' : Record} {running : Option ℕ}
    → Safe (of_two lock gate gate' phase phase' registers registers' running)
    → Allows (of_two lock gate gate' phase phase' registers registers' running) 1 kind
    → Safe (changed (of_two lock gate gate' phase phase' registers registers' running) 1 kind)
one_keeps Start s g = pair_back (start refl s.one_safe s.zero_safe g.0 g.1)
one_keeps Rest s g = pair_back (rest refl s.one_safe s.zero_safe g.0 g.1 g.2)
one_keeps Take s g = pair_back (take refl s.one_safe s.zero_safe g.0 g.1)
one_keeps Give s g = pair_back (give refl s.one_safe s.zero_safe g.0 g.1 g.2)
one_keeps Save s g = pair_back (save refl s.one_safe s.zero_safe g.0 g.1)
one_keeps Back s g = pair_back (back refl s.one_safe s.zero_safe g.0 g.1)
one_keeps Hold s g = pair_back (hold refl s.one_safe s.zero_safe g.0 g.1 g.2)
one_keeps Ask s g = pair_back (ask refl s.one_safe s.zero_safe g.0 g.1 g.2)
one_keeps Park s g = pair_back (park refl s.one_safe s.zero_safe g.0 g.1 g.2)
one_keeps See s g = pair_back (see refl s.one_safe s.zero_safe g.0 g.1)
one_keeps Begin s g = pair_back (begin refl s.one_safe s.zero_safe g.0 g.1)
one_keeps Done s g = pair_back (done refl s.one_safe s.zero_safe g.0 g.1)
one_keeps End s g = pair_back (end refl s.one_safe s.zero_safe g.0 g.1 g.2)
one_keeps Leave s g = pair_back (leave refl s.one_safe s.zero_safe g.0 g.1)
one_keeps (Set registers) s g =
    pair_back (set_own refl s.one_safe s.zero_safe registers g.0 g.1 g.2)
one_keeps (Fetch space) s g = s

-- each event of a core keeps a safe machine safe
pub event_keeps_safe : (m : Machine) (e : Event) → e.core < 2 → Safe m → CanHappen m e
    → Safe (after m e)
event_keeps_safe m e core safe can = by_core e.core e.kind core safe can
  where
    by_core : (c : ℕ) (kind : Kind) → c < 2 → Safe m → Allows m c kind → Safe (changed m c kind)
    by_core zero kind small safe can =
        by_two (λ m. Safe m → Allows m 0 kind → Safe (changed m 0 kind))
        (λ lock g g' p p' r r' running. zero_keeps kind) m safe.two_cores safe can
    by_core (suc zero) kind small safe can =
        by_two (λ m. Safe m → Allows m 1 kind → Safe (changed m 1 kind))
        (λ lock g g' p p' r r' running. one_keeps kind) m safe.two_cores safe can
    by_core (suc (suc c)) kind small safe can = absurd (omega arith)

-- a core at rest as at the start, beside another one
at_rest : (c o : ℕ) → c + o ≡ 1 → SafeAt c 0 AtRest Resting Resting starting None
at_rest c o apart = grind arith

-- the first machine is safe
pub first_safe : Safe first_machine
first_safe = pair (at_rest 0 1 refl, at_rest 1 0 refl)
