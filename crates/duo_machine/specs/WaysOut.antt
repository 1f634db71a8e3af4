-- Ways out: events by which both cores come home from a safe machine, and by which each wait ends.
use Rattle.std.specs.Prelude.{◌≡◌, ◌≢◌, ◌≤◌, ◌<◌, ◌⊎◌, ℕ, List, [], ◌∷◌, length, Option, Some, None}
use Rattle.core_state.specs.declared.registers.Regs.{Regs}
use Rattle.duo_machine.specs.declared.machine.Gate.TheVariants.{Run, Asked, Freed}
use Rattle.duo_machine.specs.declared.machine.Phase.TheVariants.{Resting, Running, Owning, Asking, Parked}
use Rattle.duo_machine.specs.declared.machine.Machine.{Machine}
use Rattle.duo_machine.specs.declared.events.Kind.{Kind}
use Rattle.duo_machine.specs.declared.events.Kind.TheVariants.{Start, Rest, Take, Save, Back, Hold, Ask, Park, See, Begin, Leave, Set, Fetch}
use Rattle.duo_machine.specs.declared.events.Event.{Event}
use Rattle.duo_machine.specs.Machine.{other, gate_of, phase_of, record_of, own_of}
use Rattle.duo_machine.specs.Table.{Allows, changed, CanHappen, after, HasSaved, HasNoneSaved}
use Rattle.duo_machine.specs.Runs.{after_all}
use Rattle.duo_machine.specs.Safe.{Safe}

-- an event of this kind begins nothing new: it takes no lock, holds or asks nobody, begins no step,
-- and is no going to rest, no Set and no Fetch
abbrev pub BeginsNothing : Kind → Type 0
BeginsNothing Rest = ⊥
BeginsNothing Take = ⊥
BeginsNothing Hold = ⊥
BeginsNothing Ask = ⊥
BeginsNothing Begin = ⊥
BeginsNothing (Set registers) = ⊥
BeginsNothing (Fetch space) = ⊥
BeginsNothing _ = Unit {0}

-- what an event that winds up is: it saves only where its core is asked to park, puts registers back
-- only where it is not, and else begins nothing new
abbrev pub IsWindingUp : Machine → ℕ → Kind → Type 0
IsWindingUp m c Save = gate_of m c ≡ Asked
IsWindingUp m c Back = gate_of m c ≢ Asked
IsWindingUp m c kind = BeginsNothing kind

-- the event is of core 0 or core 1, may happen next, and winds up
pub record WindsUp (m : Machine) (e : Event) : Type 0 where
  pub core : e.core < 2
  pub can : CanHappen m e
  pub winds_up : IsWindingUp m e.core e.kind

-- each event winds up when its turn comes
abbrev pub WindUp : Machine → List Event → Type 0
WindUp m [] = Unit {0}
WindUp m (e ∷ events) = WindsUp m e × WindUp (after m e) events

-- each event is of this core
abbrev pub AreOf : ℕ → List Event → Type 0
AreOf c [] = Unit {0}
AreOf c (e ∷ events) = (e.core ≡ c) × AreOf c events

-- the events are a way out of this machine, of at most so many events
pub record IsWayOut (most : ℕ) (m : Machine) (events : List Event) : Type 0 where
  -- each event may happen when its turn comes, and winds up
  pub wind_up : WindUp m events
  -- there are no more of them than this
  pub few : length events ≤ most

-- a core is home: it runs, nobody wants it to park, nothing is saved, and its registers in force are
-- these
pub record IsCoreHome (m : Machine) (c : ℕ) (registers : Regs) : Type 0 where
  pub phase : phase_of m c ≡ Running
  pub gate : gate_of m c ≡ Run
  pub none_saved : HasNoneSaved m c
  pub in_force : (record_of m c).regs ≡ registers

-- a machine that is reached from another one is home
pub record IsHome (before there : Machine) : Type 0 where
  -- both cores are home, and the registers in force are those that were their own before
  pub cores : (c : ℕ) → c < 2 → IsCoreHome there c (own_of before c)
  -- these are still their own
  pub keeps_own : (c : ℕ) → c < 2 → own_of there c ≡ own_of before c
  -- the lock is free
  pub free : there.lock ≡ 0
  -- no step runs
  pub idle : there.running ≡ None

-- there is a way home, of at most so many events
pub record HasWayHome (most : ℕ) (m : Machine) : Type 0 where
  pub way : List Event
  pub is_way_out : IsWayOut most m way
  pub home : IsHome m (after_all m way)

-- events that wind up lead home, whichever they are: there are at most eight, and both cores are
-- home where no event is left that winds up
pub record LeadHome (m : Machine) (events : List Event) : Type 0 where
  pub few : length events ≤ 8
  pub home : ((e : Event) → ¬ WindsUp (after_all m events) e) → IsHome m (after_all m events)

-- the other core alone can bring this about, by at most so many events that wind up
pub record OtherBrings (most : ℕ) (m : Machine) (c : ℕ) (Wanted : Machine → Type 0) : Type 0 where
  pub way : List Event
  pub of_the_other : AreOf (other c) way
  pub is_way_out : IsWayOut most m way
  pub wanted : Wanted (after_all m way)

-- the events by which a core serves its gate that asks it to park: it saves its registers, where
-- nothing is saved, and parks
abbrev pub parking : ℕ → Option Regs → List Event
parking c None = record { core = c; kind = Save } ∷ record { core = c; kind = Park } ∷ []
parking c (Some saved) = record { core = c; kind = Park } ∷ []

-- the machine once the core has served its gate
abbrev pub once_parked : Machine → ℕ → Machine
once_parked m c = after_all m (parking c (record_of m c).saved)

-- what holds where a core is asked to park: it has to serve its gate first, and then its waits end
pub record HasToPark (m : Machine) (c : ℕ) : Type 0 where
  -- until the core has parked the other one waits too: no event of it may happen
  pub other_waits : (kind : Kind) → ¬ Allows m (other c) kind
  -- the core can park, by its own events alone
  pub parks : IsWayOut 2 m (parking c (record_of m c).saved)
  -- then the other core comes to free the core's gate
  pub freed : OtherBrings 2 (once_parked m c) c (λ there. Allows there c Leave)
  -- and by two more events to give the lock back, so that the core may leave its gate and take it
  pub lock : OtherBrings 4 (once_parked m c) c
      (λ there. Allows there c Leave × Allows (changed there c Leave) c Take)

-- each wait of a core ends by at most two events of the other core alone, but where the core is
-- asked to park
pub record WaitsEnd (m : Machine) (c : ℕ) : Type 0 where
  -- a core that rests is let go where it is held: it may start
  pub let_go : phase_of m c ≡ Resting → OtherBrings 2 m c (λ there. Allows there c Start)
  -- a parked core is freed: it may leave
  pub freed : phase_of m c ≡ Parked → OtherBrings 2 m c (λ there. Allows there c Leave)
  -- a core that asks finds the other one parked
  pub parked : phase_of m c ≡ Asking → OtherBrings 2 m c (λ there. Allows there c See)
  -- where the other core was freed, it leaves its gate
  pub left :
      gate_of m (other c) ≡ Freed → OtherBrings 1 m c (λ there. gate_of there (other c) ≡ Run)
  -- so an owner that is masked may hold the other core or ask it
  pub reached :
      phase_of m c ≡ Owning → HasSaved m c →
      OtherBrings 1 m c (λ there. Allows there c Hold ⊎ Allows there c Ask)
  -- for a core that runs, and is not asked to park, the lock becomes free
  pub lock :
      phase_of m c ≡ Running → gate_of m c ≢ Asked →
      OtherBrings 2 m c (λ there. Allows there c Take)
  -- a core that is asked to park has to do so first, also where it waits for the lock
  pub asked : gate_of m c ≡ Asked → HasToPark m c

-- from every safe machine at most eight events lead home
abbrev pub EachMachineHasAWayHome : Type 0
EachMachineHasAWayHome = (m : Machine) → Safe m → HasWayHome 8 m

-- from every safe machine all events that wind up lead home, in whatever order both cores make them
abbrev pub EachWayLeadsHome : Type 0
EachWayLeadsHome = (m : Machine) (events : List Event) → Safe m → WindUp m events → LeadHome m events

-- in every safe machine each wait of each core ends
abbrev pub EachWaitEnds : Type 0
EachWaitEnds = (m : Machine) (c : ℕ) → Safe m → c < 2 → WaitsEnd m c
