-- What a seat knows, what it has in hand, and how a step changes what it knows.
use Rattle.std.specs.Prelude.{◌≡◌, ◌==◌, ◌<◌, ◌+◌, ℕ, Bool, true, false, List, [], ◌∷◌, Option, Some, None}
use Rattle.core_state.specs.declared.registers.Record.{Record}
use Rattle.core_state.specs.Registers.{starting}
use Rattle.atomic_table.specs.Table.{Me}
use Rattle.atomic_table.specs.Seated.{TableId}
use Rattle.duo_machine.specs.declared.machine.Gate.{Gate}
use Rattle.duo_machine.specs.declared.machine.Gate.TheVariants.{Rest, Run, Asked, Parked as AtParked, Freed, Held}
use Rattle.duo_machine.specs.declared.machine.Phase.{Phase}
use Rattle.duo_machine.specs.declared.machine.Phase.TheVariants.{Resting}
use Rattle.park_words.specs.declared.view.Stage.TheVariants.{New, One, Both, Spent}
use Rattle.park_words.specs.declared.view.Entry.{Entry}
use Rattle.park_words.specs.declared.view.View.{View}

-- the number that a gate's word has
abbrev pub gate_word : Gate → ℕ
gate_word Rest = 0
gate_word Run = 1
gate_word Asked = 2
gate_word AtParked = 3
gate_word Freed = 4
gate_word Held = 5

-- the word in which a core's gate stands
abbrev pub gate_place : ℕ → ℕ
gate_place c = c + 2

-- the other core's gate, as a quiet core knows it: held at rest, or parked
abbrev pub held_gate : Bool → Gate
held_gate true = Held
held_gate false = AtParked

-- whether the running step is this core's
abbrev pub is_step_of : ℕ → Option ℕ → Bool
is_step_of c None = false
is_step_of c (Some d) = d == c

-- the slots in the hand of a seat: the emptied slot while it has the turn, else none
abbrev pub in_hand : {S : Type 0} → Bool → List (ℕ × Option S)
in_hand true = (0, None) ∷ []
in_hand false = []

-- a table of four words and one slot
abbrev pub HasFourWords : TableId → Type 0
HasFourWords z = (z.words ≡ 4) × (z.slots ≡ 1)

-- what a contract sees of a seat: its table, its number there, and what it knows
pub record Seated (B D : Type 0) : Type 0 where
  pub table : TableId
  pub number : ℕ
  pub view : View B D

module _ {B D : Type 0} where
  -- the one view before the seats are dealt, for both resting cores
  abbrev pub fresh : View B D
  fresh = record {
    stage = New;
    core = 0;
    phase = Resting;
    registers = starting;
    stepping = false;
    share = [];
    base = None;
    turn = false;
    other = starting;
    other_share = [];
    running = None;
    held = false;
    seen = [];
    other_seen = [];
  }

  -- the view of a core as its seat is dealt
  abbrev pub dealt : ℕ → Option B → View B D
  dealt c base = record (fresh) { stage = One; core = c; base = base }

  -- the seat is one of these words, its core rests, and it does not have the turn
  abbrev pub IsIdle : TableId → Seated B D → Type 0
  IsIdle words s = (s.table ≡ words) × (s.view.phase ≡ Resting) × (s.view.turn ≡ false)

  -- what a seat knows in another phase, and whether it holds the other core at rest, by this run
  abbrev pub moved : View B D → Phase → Bool → List Entry → View B D
  moved v phase held seen = record v { phase = phase; held = held; seen = seen }

  -- what a seat knows that saw this run and did nothing
  abbrev pub saw : View B D → List Entry → View B D
  saw v seen = record v { seen = seen }

  -- what a seat knows once it has taken the turn
  abbrev pub with_turn : View B D → Record → List D → Option ℕ → List Entry → View B D
  with_turn v other other_share running seen =
      record v {
        turn = true;
        other = other;
        other_share = other_share;
        running = running;
        seen = seen;
      }

  -- what a seat knows once it has given the turn back, with its registers, the running step and its
  -- share
  abbrev pub without_turn : View B D → Record → Option ℕ → List D → List Entry → View B D
  without_turn v registers running share seen =
      record v {
        registers = registers;
        stepping = is_step_of v.core running;
        share = share;
        turn = false;
        seen = seen;
      }

  -- the view of a seat that took in the other one's
  abbrev pub both_of : View B D → View B D → View B D
  both_of v w =
      record v {
        stage = Both;
        other = w.registers;
        other_share = w.share;
        other_seen = w.seen;
      }

  -- the view that the other seat is left with
  abbrev pub spent : View B D
  spent = record (fresh) { stage = Spent }

  -- the seat in another phase, and whether it holds the other core at rest
  abbrev pub seat_moved : Seated B D → Phase → Bool → List Entry → Seated B D
  seat_moved s phase held seen = record s { view = moved s.view phase held seen }

  -- the seat that saw this run and did nothing
  abbrev pub seat_saw : Seated B D → List Entry → Seated B D
  seat_saw s seen = record s { view = saw s.view seen }

  -- the seat in another phase, holding no core at rest
  abbrev pub in_phase : Seated B D → Phase → List Entry → Seated B D
  in_phase s phase seen = seat_moved s phase false seen

  -- the seat in another phase, holding the other core at rest
  abbrev pub in_phase_holding : Seated B D → Phase → List Entry → Seated B D
  in_phase_holding s phase seen = seat_moved s phase true seen

-- a core's seat, as the core itself keeps it: what it knows of its own, and what it has in hand
pub record IsKept
    {S B D : Type 0} (me : Me (Option S) (View B D))
    (core : ℕ) (phase : Phase) (registers : Record) (turn held : Bool) : Type 0 where
  pub one : me.0.stage ≡ One
  pub core_is : me.0.core ≡ core
  pub small : core < 2
  pub phase_is : me.0.phase ≡ phase
  pub registers_are : me.0.registers ≡ registers
  pub turn_is : me.0.turn ≡ turn
  pub held_is : me.0.held ≡ held
  pub hand : me.1 ≡ in_hand turn
