-- What the four words, the value at home and the views stand for. Core c sees its own gate and view
-- first.
use Rattle.std.specs.Prelude.{◌≡◌, ℕ, ◌+◌, ◌≤◌, Bool, true, false, ◌↔◌, List, [], ◌∷◌, Option, Some, None}
use mathlib.Core.Option.{some}
use mathlib.Core.Option as maybe
use Rattle.core_state.specs.declared.registers.Record.{Record}
use Rattle.core_state.specs.Sharing.{in_order}
use Rattle.atomic_table.specs.Table.{State}
use Rattle.duo_machine.specs.declared.machine.Gate.{Gate}
use Rattle.duo_machine.specs.declared.machine.Phase.{Phase}
use Rattle.duo_machine.specs.declared.machine.Phase.TheVariants.{Quiet}
use Rattle.duo_machine.specs.declared.machine.Machine.{Machine}
use Rattle.duo_machine.specs.Machine.{other, first_machine}
use Rattle.duo_machine.specs.Safe.{Safe}
use Rattle.duo_machine.specs.Runs.{IsSafeRun}
use Rattle.park_words.specs.declared.view.Stage.TheVariants.{One, Both}
use Rattle.park_words.specs.declared.view.View.{View}
use Rattle.core_state.specs.TwoSeats.{IsPair, HasTwoSeats}
use Rattle.park_words.specs.Views.{gate_word, held_gate, fresh, spent}
use Rattle.park_words.specs.Story.{events_of, machine_of, rest_by, Story}

-- the running step is the core's whose view says so, and there is none where neither does
pub record RunIs (run : Option ℕ) (c o : ℕ) (mine theirs : Bool) : Type 0 where
  pub own : mine ≡ true → run ≡ Some c
  pub other : theirs ≡ true → run ≡ Some o
  pub none : mine ≡ false → theirs ≡ false → run ≡ None

-- the turn is nobody's, or that of the one core whose view has it
pub record TurnIs (turn c o : ℕ) (mine theirs : Bool) : Type 0 where
  pub own : (turn ≡ c + 1) ↔ (mine ≡ true)
  pub other : (turn ≡ o + 1) ↔ (theirs ≡ true)
  pub at_most_two : turn ≤ 2

-- a quiet core knows whether the other gate is held or parked
abbrev pub KnowsGate : Phase → Bool → Gate → Type 0
KnowsGate phase held gate = phase ≡ Quiet → gate ≡ held_gate held

-- while it has the turn, a core knows the other one's registers and share, and the running step
abbrev pub KnowsOther : {B D : Type 0} → View B D → View B D → Option ℕ → Type 0
KnowsOther v w run =
    v.turn ≡ true → (v.other ≡ w.registers) × (v.other_share ≡ w.share) × (v.running ≡ run)

module _ {S B D : Type 0} where
  -- what core 0 and core 1 did to the value, over a base, if there is one
  abbrev pub StandsFor :
      (S → B → List D → List D → Type 0) → S → Option B → List D → List D → Type 0
  StandsFor stands x None left right = ⊥
  StandsFor stands x (Some b) left right = stands x b left right

  -- the same, as a core sees it: what it did itself comes first
  abbrev pub StandsBy :
      (S → B → List D → List D → Type 0) → S → Option B → ℕ → List D → List D → Type 0
  StandsBy stands x base c mine theirs = in_order (StandsFor stands x base) c mine theirs

-- the value at home has both cores' registers and the running step, and stands for the base and
-- both shares
pub record AtHome
    {S B D : Type 0}
    (records : S → ℕ → Record) (runs : S → Option ℕ) (stands : S → B → List D → List D → Type 0)
    (homes : List (maybe.Option (Option S))) (c o : ℕ) (base : Option B)
    (mine theirs : Record) (share share' : List D) (run : Option ℕ)
    : Type 0 where
  pub value : S
  pub home : homes ≡ some (Some value) ∷ []
  pub own : records value c ≡ mine
  pub other : records value o ≡ theirs
  pub step : runs value ≡ run
  pub stands_by : StandsBy stands value base c share share'

-- what the words and both views stand for, as core c sees it
pub record Pairing
    {S B D : Type 0}
    (records : S → ℕ → Record) (runs : S → Option ℕ) (stands : S → B → List D → List D → Type 0)
    (c o turn : ℕ) (gate gate' : Gate) (run : Option ℕ)
    (homes : List (maybe.Option (Option S))) (v w : View B D)
    : Type 0 where
  -- each view is of its core
  pub cores : (v.core ≡ c) × (w.core ≡ o)
  -- both know the same base
  pub bases : v.base ≡ w.base
  -- the running step is that of the views
  pub step : RunIs run c o v.stepping w.stepping
  -- the turn word names the view that has the turn, and no other
  pub turns : TurnIs turn c o v.turn w.turn
  -- who has the turn knows the other one
  pub mine : KnowsOther v w run
  pub theirs : KnowsOther w v run
  -- where nobody has the turn, the value is at home
  pub home :
      turn ≡ 0 →
      AtHome records runs stands homes c o v.base v.registers w.registers v.share w.share run
  -- what a quiet core says of the other gate is so
  pub knows : KnowsGate v.phase v.held gate'
  pub knows' : KnowsGate w.phase w.held gate

-- the view is of one core
abbrev pub IsOne : {B D : Type 0} → View B D → Type 0
IsOne v = v.stage ≡ One

-- the view is of both cores again
abbrev pub IsBoth : {B D : Type 0} → View B D → Type 0
IsBoth v = v.stage ≡ Both

module _
    {S B D : Type 0}
    (records : S → ℕ → Record) (runs : S → Option ℕ) (stands : S → B → List D → List D → Type 0)
  where
    -- the seats are not dealt yet: all words are 0, and the value handed in is at home
    pub record Start
        (key : S) (words : List ℕ) (homes : List (maybe.Option (Option S))) : Type 0 where
      pub zeros : words ≡ 0 ∷ 0 ∷ 0 ∷ 0 ∷ []
      pub home : homes ≡ some (Some key) ∷ []

    -- both seats are out: words, value and views stand for one machine and turn, and one run of
    -- both cores leads there, of which each view has seen a beginning
    pub record Pair
        (words : List ℕ) (homes : List (maybe.Option (Option S))) (left right : View B D)
        : Type 0 where
      pub lock : ℕ
      pub turn : ℕ
      pub gate : Gate
      pub gate' : Gate
      pub run : Option ℕ
      pub numbers : words ≡ lock ∷ turn ∷ gate_word gate ∷ gate_word gate' ∷ []
      pub pairing : Pairing records runs stands 0 1 turn gate gate' run homes left right
      pub story :
          Story
          (machine_of lock gate gate' left.phase right.phase left.registers right.registers run)
          turn 0 1 left.seen right.seen

    -- one seat took in the other: all words are 0, the value is at home as both knew it, and one
    -- run leads to both cores at rest
    pub record Joined
        (words : List ℕ) (homes : List (maybe.Option (Option S))) (both : View B D)
        : Type 0 where
      pub zeros : words ≡ 0 ∷ 0 ∷ 0 ∷ 0 ∷ []
      pub core : both.core ≤ 1
      pub home :
          AtHome records runs stands homes both.core (other both.core) both.base
          both.registers both.other both.share both.other_share None
      pub story :
          Story (rest_by both.core both.registers both.other) 0 both.core (other both.core)
          both.seen both.other_seen

    -- there are two views, of core 0 and core 1, and what words and views stand for is one machine
    abbrev pub Paired : State (Option S) (View B D) → Type 0
    Paired s = IsPair IsOne Pair s

    -- the rule: one view for both cores at the start, one for each core, and one for both at the
    -- end
    abbrev pub Ruled : S → State (Option S) (View B D) → Type 0
    Ruled key s = HasTwoSeats fresh spent IsOne IsBoth (Start key) Pair Joined s

    -- the machine that a state with two views stands for
    abbrev pub machine : (s : State (Option S) (View B D)) → Paired s → Machine
    machine s p =
        let q = p.there in
        machine_of q.lock q.gate q.gate' p.left.phase p.right.phase
        p.left.registers p.right.registers q.run

    -- what words and views stand for is one machine, it is safe, and the run that leads to it is
    -- safe
    abbrev pub StandForOneSafeMachine : Type 0
    StandForOneSafeMachine =
        (s : State (Option S) (View B D)) (p q : Paired s) →
        Safe (machine s p) × (machine s p ≡ machine s q)
        × IsSafeRun first_machine (events_of p.there.story.run)
