-- Runs of the machine: lists of events, the machines on the way, and what a safe run is.
use Rattle.std.specs.Prelude.{◌≡◌, ◌==◌, ℕ, ◌<◌, List, [], ◌∷◌, ◌++◌, None, IsSome, if◌then◌else◌}
use Rattle.core_state.specs.declared.registers.Regs.{Regs}
use Rattle.core_state.specs.Registers.{masked}
use Rattle.image_layout.specs.declared.space.Space.{Space}
use Rattle.duo_machine.specs.declared.machine.Machine.{Machine}
use Rattle.duo_machine.specs.declared.events.Kind.{Kind}
use Rattle.duo_machine.specs.declared.events.Kind.TheVariants.{Set, Fetch}
use Rattle.duo_machine.specs.declared.events.Event.{Event}
use Rattle.duo_machine.specs.Machine.{record_of, own_of}
use Rattle.duo_machine.specs.Table.{CanHappen, after, HasNoneSaved}
use Rattle.duo_machine.specs.Safe.{Safe}

-- each event is of core 0 or core 1
abbrev pub AreOfTwoCores : List Event → Type 0
AreOfTwoCores [] = Unit {0}
AreOfTwoCores (e ∷ events) = (e.core < 2) × AreOfTwoCores events

-- each event may happen when its turn comes
abbrev pub CanRun : Machine → List Event → Type 0
CanRun m [] = Unit {0}
CanRun m (e ∷ events) = CanHappen m e × CanRun (after m e) events

-- the machine after all events
abbrev pub after_all : Machine → List Event → Machine
after_all m [] = m
after_all m (e ∷ events) = after_all (after m e) events

-- the run goes through this machine: some first part of the events leads to it
pub record Passes (m : Machine) (events : List Event) (there : Machine) : Type 0 where
  pub front : List Event
  pub rest : List Event
  pub split : events ≡ front ++ rest
  pub reached : there ≡ after_all m front

-- the run fetches at this machine: some first part of the events leads to it, and a fetch is next
pub record Fetches (m : Machine) (events : List Event) (there : Machine) : Type 0 where
  pub front : List Event
  pub core : ℕ
  pub space : Space
  pub rest : List Event
  pub split : events ≡ front ++ record { core = core; kind = Fetch space } ∷ rest
  pub reached : there ≡ after_all m front

-- where a step runs, no core's cache or interrupt line is on
abbrev pub StepsRunMasked : Machine → Type 0
StepsRunMasked m = IsSome m.running → (c : ℕ) → c < 2 → (record_of m c).regs ≡ masked

-- the registers that an event of this kind gives its core, where it had these
abbrev pub set_by : Kind → Regs → Regs
set_by (Set registers) before = registers
set_by _ before = before

-- the registers of the core's last Set among the events, or these where it has none
abbrev pub last_set : ℕ → List Event → Regs → Regs
last_set c [] before = before
last_set c (e ∷ events) before =
    last_set c events (if e.core == c then set_by e.kind before else before)

-- what holds of every run from a safe machine
pub record IsSafeRun (m : Machine) (events : List Event) : Type 0 where
  -- each machine on the way is safe, and so is the last one
  pub safe : (there : Machine) → Passes m events there → Safe there
  -- no core fetches while a step runs
  pub no_fetch_meets_a_step : (there : Machine) → Fetches m events there → there.running ≡ None
  -- while a step runs both cores are masked
  pub masked_while_a_step_runs :
      (there : Machine) → Passes m events there → StepsRunMasked there
  -- a core's own registers are those of its last Set, or those at the start
  pub keeps_own :
      (c : ℕ) → c < 2 → own_of (after_all m events) c ≡ last_set c events (own_of m c)
  -- where a core has nothing saved, at each machine on the way, these registers are in force
  pub own_in_force :
      (there : Machine) (way : Passes m events there) (c : ℕ) → c < 2 → HasNoneSaved there c →
      (record_of there c).regs ≡ last_set c way.front (own_of m c)
