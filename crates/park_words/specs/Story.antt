-- The run of the words: what both cores did, in one order, and what each of them has seen of it.
use Rattle.std.specs.Prelude.{◌≡◌, ◌==◌, ◌<◌, ◌+◌, ◌++◌, ℕ, zero, suc, true, ◌↔◌, List, [], ◌∷◌, Option, Some, None, if◌then◌else◌}
use Rattle.core_state.specs.declared.registers.Record.{Record}
use Rattle.core_state.specs.Registers.{reset, own_registers}
use Rattle.duo_machine.specs.declared.machine.Gate.{Gate}
use Rattle.duo_machine.specs.declared.machine.Gate.TheVariants.{Rest as AtRest}
use Rattle.duo_machine.specs.declared.machine.Phase.{Phase}
use Rattle.duo_machine.specs.declared.machine.Phase.TheVariants.{Resting, Quiet}
use Rattle.duo_machine.specs.declared.machine.Machine.{Machine}
use Rattle.duo_machine.specs.declared.events.Kind.{Kind}
use Rattle.duo_machine.specs.declared.events.Kind.TheVariants.{Start, Rest, Take, Give, Save, Back, Hold, Ask, Park, See, Begin, Done, End, Leave, Set, Fetch}
use Rattle.duo_machine.specs.declared.events.Event.{Event}
use Rattle.duo_machine.specs.Machine.{other, gate_of, phase_of, record_of, first_machine}
use Rattle.duo_machine.specs.Runs.{CanRun, after_all, last_set, IsSafeRun}
use Rattle.park_words.specs.declared.view.Act.{Act}
use Rattle.park_words.specs.declared.view.Act.TheVariants.{Made, Took, Gave}
use Rattle.park_words.specs.declared.view.Entry.{Entry}
use Rattle.park_words.specs.declared.view.View.{View}
use Rattle.park_words.specs.Views.{gate_word, held_gate}

-- an entry of a run
abbrev pub entry : ℕ → Act → Entry
entry c act = record { core = c; act = act }

-- the entries of a core
abbrev pub done_by : ℕ → List Entry → List Entry
done_by c [] = []
done_by c (e ∷ es) = if e.core == c then e ∷ done_by c es else done_by c es

-- each entry is of core 0 or core 1
abbrev pub AreOfBothCores : List Entry → Type 0
AreOfBothCores [] = Unit {0}
AreOfBothCores (e ∷ es) = (e.core < 2) × AreOfBothCores es

-- the events of the machine before these, where a core's step was this
abbrev pub event_of : ℕ → Act → List Event → List Event
event_of c (Made kind) events = record { core = c; kind = kind } ∷ events
event_of c Took events = events
event_of c Gave events = events

-- the events of the machine in a run
abbrev pub events_of : List Entry → List Event
events_of [] = []
events_of (e ∷ es) = event_of e.core e.act (events_of es)

-- whose turn it is after a step of a core, 0 for nobody's, else the core's number plus 1
abbrev pub turn_by : ℕ → ℕ → Act → ℕ
turn_by turn c (Made kind) = turn
turn_by turn c Took = c + 1
turn_by turn c Gave = 0

-- the same after a run
abbrev pub turn_after : ℕ → List Entry → ℕ
turn_after turn [] = turn
turn_after turn (e ∷ es) = turn_after (turn_by turn e.core e.act) es

-- the event is done to the value, so its core has the turn
abbrev pub NeedsTurn : Kind → Type 0
NeedsTurn Start = ⊥
NeedsTurn Rest = ⊥
NeedsTurn Take = ⊥
NeedsTurn Give = ⊥
NeedsTurn Save = Unit {0}
NeedsTurn Back = Unit {0}
NeedsTurn Hold = ⊥
NeedsTurn Ask = ⊥
NeedsTurn Park = ⊥
NeedsTurn See = ⊥
NeedsTurn Begin = Unit {0}
NeedsTurn Done = Unit {0}
NeedsTurn End = ⊥
NeedsTurn Leave = ⊥
NeedsTurn (Set registers) = Unit {0}
NeedsTurn (Fetch space) = Unit {0}

-- a step keeps to the turn: it takes it where it is free, and gives it back or changes the value
-- where it is the core's own
abbrev pub MayAct : ℕ → ℕ → Act → Type 0
MayAct turn c (Made kind) = NeedsTurn kind → turn ≡ c + 1
MayAct turn c Took = turn ≡ 0
MayAct turn c Gave = turn ≡ c + 1

-- each step of a run keeps to the turn
abbrev pub KeepTurns : ℕ → List Entry → Type 0
KeepTurns turn [] = Unit {0}
KeepTurns turn (e ∷ es) = MayAct turn e.core e.act × KeepTurns (turn_by turn e.core e.act) es

-- the machine that a run leads to, and whose turn it is there
abbrev pub machine_at : List Entry → Machine
machine_at run = after_all first_machine (events_of run)

abbrev pub turn_at : List Entry → ℕ
turn_at run = turn_after 0 run

-- the number that stands in a word: the lock, the turn, and the gate of each core
abbrev pub word_of : Machine → ℕ → ℕ → ℕ
word_of m turn zero = m.lock
word_of m turn (suc zero) = turn
word_of m turn (suc (suc c)) = gate_word (gate_of m c)

-- the same where a run leads
abbrev pub word_at : List Entry → ℕ → ℕ
word_at run i = word_of (machine_at run) (turn_at run) i

-- a run may be made: its events can run from the first machine, and its steps keep to the turn
pub record CanBeMade (run : List Entry) : Type 0 where
  pub two : AreOfBothCores run
  pub can : CanRun first_machine (events_of run)
  pub turns : KeepTurns 0 run

-- a run may be made, and leads to this machine and this turn
pub record Leads (run : List Entry) (m : Machine) (turn : ℕ) : Type 0 where
  pub made : CanBeMade run
  pub there : machine_at run ≡ m
  pub turn_there : turn_at run ≡ turn

-- what a core has seen is a beginning of the run, and no entry of its own came later
pub record Saw (run : List Entry) (c : ℕ) (seen : List Entry) : Type 0 where
  pub later : List Entry
  pub splits : run ≡ seen ++ later
  pub none_own : done_by c later ≡ []

-- one run leads to this machine and this turn, and both cores have seen beginnings of it
pub record Story (m : Machine) (turn c o : ℕ) (mine theirs : List Entry) : Type 0 where
  pub run : List Entry
  pub leads : Leads run m turn
  pub saw : Saw run c mine
  pub saw' : Saw run o theirs

-- every run of both cores' steps is safe: over every interleaving no core fetched while a step ran,
-- a step ran with both cores masked, and each core's own registers are those of its last Set
abbrev pub StoriesAreSafe : Type 0
StoriesAreSafe =
    (m : Machine) (turn c o : ℕ) (mine theirs : List Entry) (s : Story m turn c o mine theirs) →
    IsSafeRun first_machine (events_of s.run)

-- an act that only the core does that has the turn
abbrev pub UsesTurn : Act → Type 0
UsesTurn (Made kind) = NeedsTurn kind
UsesTurn Took = ⊥
UsesTurn Gave = Unit {0}

-- an act of a core that leaves the turn with this core
abbrev pub LeavesTurn : ℕ → ℕ → Act → Type 0
LeavesTurn c d (Made kind) = NeedsTurn kind → d ≡ c
LeavesTurn c d Took = ⊥
LeavesTurn c d Gave = ⊥

abbrev pub LeaveTurn : ℕ → List Entry → Type 0
LeaveTurn c [] = Unit {0}
LeaveTurn c (e ∷ es) = LeavesTurn c e.core e.act × LeaveTurn c es

-- the core took the turn, and since then it was neither taken nor given, and only this core changed the
-- value
pub record TookSince (run : List Entry) (c : ℕ) : Type 0 where
  pub before : List Entry
  pub since : List Entry
  pub splits : run ≡ before ++ entry c Took ∷ since
  pub leave : LeaveTurn c since

-- from the turn taken to the turn given back, what is done to the value is of one core
abbrev pub TurnsAreOfOneCore : Type 0
TurnsAreOfOneCore =
    (front rest : List Entry) (e : Entry) → CanBeMade (front ++ e ∷ rest) → UsesTurn e.act →
    TookSince front e.core

-- the machine of these two cores, core 0 first
abbrev pub machine_of :
    ℕ → Gate → Gate → Phase → Phase → Record → Record → Option ℕ → Machine
machine_of lock gate gate' phase phase' registers registers' run = record {
  lock = lock;
  gates = gate ∷ gate' ∷ [];
  phases = phase ∷ phase' ∷ [];
  records = registers ∷ registers' ∷ [];
  running = run;
}

-- both cores at rest with these registers, those of core c first
abbrev pub rest_by : ℕ → Record → Record → Machine
rest_by zero mine theirs = machine_of 0 AtRest AtRest Resting Resting mine theirs None
rest_by (suc c) mine theirs = machine_of 0 AtRest AtRest Resting Resting theirs mine None

-- what a core leaves that gives the turn back: the event that it made of the turn, if any
abbrev pub handed : ℕ → Option Kind → List Entry
handed c None = entry c Gave ∷ []
handed c (Some kind) = entry c (Made kind) ∷ entry c Gave ∷ []

module _ {B D : Type 0} where
  -- what a seat knows is so in this machine, with this turn
  pub record Agrees (v : View B D) (m : Machine) (at : ℕ) : Type 0 where
    pub phase : phase_of m v.core ≡ v.phase
    pub registers : record_of m v.core ≡ v.registers
    pub step : (m.running ≡ Some v.core) ↔ (v.stepping ≡ true)
    pub has_turn : (at ≡ v.core + 1) ↔ (v.turn ≡ true)
    pub held : v.phase ≡ Quiet → gate_of m (other v.core) ≡ held_gate v.held
    pub taken :
        v.turn ≡ true → (record_of m (other v.core) ≡ v.other) × (m.running ≡ v.running)

  -- one step: the run went on from what the seat had seen by entries of the other core alone, and
  -- then by these of its own. It may be made, and what the seat knows then is so where it leads
  pub record Went (own : List Entry) (v v' : View B D) : Type 0 where
    pub between : List Entry
    pub none_own : done_by v.core between ≡ []
    pub is : v'.seen ≡ v.seen ++ between ++ own
    pub made : CanBeMade v'.seen
    pub agrees : Agrees v' (machine_at v'.seen) (turn_at v'.seen)

  -- a step that changed nothing, and where its run leads this number stands in the word
  abbrev pub Looks : ℕ → ℕ → View B D → View B D → Type 0
  Looks i r v v' = Went [] v v' × (word_at v'.seen i ≡ r)

  -- any number of steps: the run went on, and of the seat's own entries came exactly these
  pub record Ran (own : List Entry) (v v' : View B D) : Type 0 where
    pub core : v'.core ≡ v.core
    pub later : List Entry
    pub is : v'.seen ≡ v.seen ++ later
    pub own_is : done_by v.core later ≡ own

  -- both seats are back: one run leads to both cores at rest with these registers. Both have seen
  -- beginnings of it with all that they did, it is safe, and each core has the registers of its own
  -- last Set
  pub record RanToRest (v w : View B D) : Type 0 where
    pub story :
        Story (rest_by v.core v.registers w.registers) 0 v.core (other v.core) v.seen w.seen
    pub safe : IsSafeRun first_machine (events_of story.run)
    pub own : own_registers v.registers ≡ last_set v.core (events_of v.seen) reset
    pub other_own :
        own_registers w.registers ≡ last_set (other v.core) (events_of w.seen) reset
