-- What the calls tell: how the run that a seat has seen went on, and of the value.
use Rattle.std.specs.Prelude.{◌≡◌, ◌==◌, ◌≢◌, ◌≤◌, ◌++◌, ℕ, Bool, true, false, ◌⊎◌, ◌↔◌, List, [], ◌∷◌, Option, Some, None, IsSome, IsNone, IsTrue}
use Rattle.std.specs.Int.{IsBitSet}
use mathlib.Core.Option.{none}
use Rattle.core_state.specs.declared.registers.Record.{Record}
use Rattle.core_state.specs.Registers.{starting, saved_and_masked, restored}
use prog.Atomic.{either}
use Rattle.atomic_table.specs.Table.{Me, Step, step, Allows as AllowsStep}
use Rattle.duo_machine.specs.declared.machine.Gate.{Gate}
use Rattle.duo_machine.specs.declared.machine.Gate.TheVariants.{Asked}
use Rattle.duo_machine.specs.declared.machine.Phase.{Phase}
use Rattle.duo_machine.specs.declared.machine.Phase.TheVariants.{Running, Owning, Asking, Quiet}
use Rattle.duo_machine.specs.declared.events.Kind.{Kind}
use Rattle.duo_machine.specs.declared.events.Kind.TheVariants.{Start, Rest as GoesToRest, Take, Give, Save, Back, Hold, Ask, Park, See, Begin, Done, End, Leave, Set, Fetch}
use Rattle.duo_machine.specs.Machine.{other}
use Rattle.duo_machine.specs.Table.{IsAwake, bit_of}
use Rattle.park_words.specs.declared.view.Act.TheVariants.{Made, Took}
use Rattle.park_words.specs.declared.view.Stage.TheVariants.{One}
use Rattle.park_words.specs.declared.view.Entry.{Entry}
use Rattle.park_words.specs.declared.view.View.{View}
use Rattle.park_words.specs.Views.{Seated, gate_word, gate_place, saw, with_turn, without_turn, moved}
use Rattle.park_words.specs.Story.{entry, handed, Went, Looks}
use Rattle.park_words.specs.Rule.{Ruled, StandsFor, StandsBy}

-- what a core did while it had the turn: one event of the machine or none, and what it adds to its
-- share
pub record Work (D : Type 0) : Type 0 where
  pub event : Option Kind
  pub items : List D

module _ {D : Type 0} where
  -- no event, and nothing new in the share
  abbrev pub no_work : Work D
  no_work = record { event = None; items = [] }

  -- this event, and nothing new in the share
  abbrev pub event_alone : Kind → Work D
  event_alone kind = record { event = Some kind; items = [] }

  -- no event, and these new items in the share
  abbrev pub items_alone : List D → Work D
  items_alone items = record { event = None; items = items }

-- a core runs, owns the lock, or asks the other one to park
abbrev pub IsBeforeQuiet : Phase → Type 0
IsBeforeQuiet phase = (phase ≡ Running) ⊎ (phase ≡ Owning) ⊎ (phase ≡ Asking)

module _ {B D : Type 0} where
  -- what a core may do to the value while it has the turn: at most one event of its own, by its
  -- guard
  abbrev pub Does : Option Kind → View B D → Record → Option ℕ → Type 0
  Does None v r run = (r ≡ v.registers) × (run ≡ v.running)
  Does (Some Save) v r run =
      IsAwake v.phase × IsNone v.registers.saved
      × (r ≡ saved_and_masked v.registers) × (run ≡ v.running)
  Does (Some Back) v r run =
      IsAwake v.phase × IsSome v.registers.saved
      × (r ≡ restored v.registers) × (run ≡ v.running)
  Does (Some (Set wanted)) v r run =
      (v.phase ≡ Running) × IsNone v.registers.saved × (wanted.mask ≤ 3)
      × (r ≡ record v.registers { regs = wanted }) × (run ≡ v.running)
  Does (Some (Fetch space)) v r run =
      (v.phase ≡ Running) × IsBitSet v.registers.regs.mask (bit_of space)
      × (r ≡ v.registers) × (run ≡ v.running)
  Does (Some Begin) v r run =
      (v.phase ≡ Quiet) × (v.running ≢ Some v.core) × (r ≡ v.registers) × (run ≡ Some v.core)
  Does (Some Done) v r run =
      (v.phase ≡ Quiet) × (v.running ≡ Some v.core) × (r ≡ v.registers) × (run ≡ None)
  Does (Some Start) v r run = ⊥
  Does (Some GoesToRest) v r run = ⊥
  Does (Some Take) v r run = ⊥
  Does (Some Give) v r run = ⊥
  Does (Some Hold) v r run = ⊥
  Does (Some Ask) v r run = ⊥
  Does (Some Park) v r run = ⊥
  Does (Some See) v r run = ⊥
  Does (Some End) v r run = ⊥
  Does (Some Leave) v r run = ⊥

  -- the seat's step was this event
  abbrev pub Makes : Kind → Seated B D → Seated B D → Type 0
  Makes kind s t = Went (entry s.view.core (Made kind) ∷ []) s.view t.view

  -- the seat's step took the turn
  abbrev pub TookTurn : Seated B D → Seated B D → Type 0
  TookTurn s t = Went (entry s.view.core Took ∷ []) s.view t.view

  -- the seat's step gave the turn back, and made the event of the turn, if any
  abbrev pub GaveTurn : Work D → Seated B D → Seated B D → Type 0
  GaveTurn work s t = Went (handed s.view.core work.event) s.view t.view

  -- the seat's step changed nothing: this number stood in the word, and not the awaited one
  abbrev pub SawWord : ℕ → ℕ → ℕ → Seated B D → Seated B D → Type 0
  SawWord i awaited r s t = (r ≢ awaited) × Looks i r s.view t.view

  -- the same of the lock
  abbrev pub SawLock : ℕ → ℕ → Seated B D → Seated B D → Type 0
  SawLock awaited r s t = SawWord 0 awaited r s t

  -- the same of the turn, which was not free
  abbrev pub SawTurn : ℕ → Seated B D → Seated B D → Type 0
  SawTurn r s t = SawWord 1 0 r s t

  -- the same of the gate of a core
  abbrev pub SawGate : ℕ → Gate → ℕ → Seated B D → Seated B D → Type 0
  SawGate c gate r s t = SawWord (gate_place c) (gate_word gate) r s t

  -- the same of the own gate
  abbrev pub SawOwn : Gate → ℕ → Seated B D → Seated B D → Type 0
  SawOwn gate r s t = SawGate s.view.core gate r s t

  -- the same of the other core's gate
  abbrev pub SawOther : Gate → ℕ → Seated B D → Seated B D → Type 0
  SawOther gate r s t = SawGate (other s.view.core) gate r s t

  -- the seat's step changed nothing, and where its run leads the own gate is Asked or not
  abbrev pub ReadsAsked : Bool → Seated B D → Seated B D → Type 0
  ReadsAsked answer s t =
      (r : ℕ) × (IsTrue answer ↔ (r ≡ gate_word Asked))
      × Looks (gate_place s.view.core) r s.view t.view

  -- the seat has taken the turn, and knows no less than before
  abbrev pub HasTaken : Seated B D → Seated B D → Type 0
  HasTaken s t =
      (s.view.turn ≡ false)
      × (t
      ≡ record s {
        view =
            with_turn s.view t.view.other t.view.other_share t.view.running t.view.seen;
      })

  -- what a step tells that awaits a number in a word: this event where it read that number, and no
  -- change where it did not
  abbrev pub Tells :
      {S : Type 0} → Kind → Phase → Bool → ℕ → Step (Option S) → Me (Option S) (View B D) → ℕ →
      Me (Option S) (View B D) → Type 0
  Tells kind phase held awaited st me r me' =
      (r ≡ awaited →
      (me' ≡ (moved me.0 phase held me'.0.seen, me.1))
      × Went (entry me.0.core (Made kind) ∷ []) me.0 me'.0)
      × (r ≢ awaited → (me' ≡ (saw me.0 me'.0.seen, me.1)) × Looks st.word r me.0 me'.0)

  -- the same of an exchange, which awaits the number that it replaces
  abbrev pub TellsExchange :
      {S : Type 0} → Kind → Phase → Bool → Step (Option S) → Me (Option S) (View B D) → ℕ →
      Me (Option S) (View B D) → Type 0
  TellsExchange kind phase held st = Tells kind phase held st.first st

  -- what a load tells
  abbrev pub TellsLoad :
      {S : Type 0} → Step (Option S) → Me (Option S) (View B D) → ℕ → Me (Option S) (View B D) →
      Type 0
  TellsLoad st me r me' = (me' ≡ (saw me.0 me'.0.seen, me.1)) × Looks st.word r me.0 me'.0

-- the seat after the turn was given back with this value and these new items in the share
abbrev pub given :
    {S B D : Type 0} → (S → ℕ → Record) → (S → Option ℕ) → Seated B D → S → List D →
    List Entry → Seated B D
given records runs s x items seen =
    record s {
      view =
          without_turn s.view (records x s.view.core) (runs x) (s.view.share ++ items) seen;
    }

-- the seat has given the turn back with this value and this work
abbrev pub HasGiven :
    {S B D : Type 0} → (S → ℕ → Record) → (S → Option ℕ) → S → Work D → Seated B D → Seated B D →
    Type 0
HasGiven records runs x work s t = t ≡ given records runs s x work.items t.view.seen

module _
    {S B D : Type 0}
    (records : S → ℕ → Record) (runs : S → Option ℕ) (stands : S → B → List D → List D → Type 0)
  where
    -- what a value that was taken with the turn is, as its seat knows it
    pub record Known (x : S) (v : View B D) : Type 0 where
      -- it has the seat's registers, and those of the other core as the seat knows them now
      pub own : records x v.core ≡ v.registers
      pub other_is : records x (other v.core) ≡ v.other
      -- the running step is known, and it is the seat's own where one of its own runs
      pub running : runs x ≡ v.running
      pub own_step : (v.running ≡ Some v.core) ↔ (v.stepping ≡ true)
      -- while the core runs, owns the lock or asks, nothing runs; while it is quiet, nothing of the
      -- other core
      pub nothing_runs : IsBeforeQuiet v.phase → v.running ≡ None
      pub nothing_of_the_other : v.phase ≡ Quiet → v.running ≢ Some (other v.core)
      -- so a quiet core with no step of its own finds the value idle
      pub quiet_idle : v.phase ≡ Quiet → v.stepping ≡ false → v.running ≡ None
      -- it stands for the base, the own share and the other core's
      pub stands_by : StandsBy stands x v.base v.core v.share v.other_share

    -- what a core may give back with this work: the value with the other core's registers as taken,
    -- and what the event of the work makes of the own ones and of the running step, which stands
    -- for the base, the own share with the new items, and the other core's
    pub record Gives (v : View B D) (x : S) (work : Work D) : Type 0 where
      pub other_is : records x (other v.core) ≡ v.other
      pub does : Does work.event v (records x v.core) (runs x)
      pub stands_by : StandsBy stands x v.base v.core (v.share ++ work.items) v.other_share

    -- what a value is that goes in: both cores at rest, nothing runs, and it stands for a base and
    -- no shares
    abbrev pub IsOpening : S → Option B → Type 0
    IsOpening x base =
        (records x 0 ≡ starting) × (records x 1 ≡ starting) × (runs x ≡ None)
        × StandsFor stands x base [] []

    -- what a value is that comes out: it has both seats' registers, nothing runs, and it stands for
    -- the base and both shares
    pub record IsLast (x : S) (v w : View B D) : Type 0 where
      pub own : records x v.core ≡ v.registers
      pub other_is : records x (other v.core) ≡ w.registers
      pub nothing_runs : runs x ≡ None
      pub stands_by : StandsBy stands x v.base v.core v.share w.share

    -- a seat that knows this may make the exchange: in whatever state, it is the event or changes
    -- nothing
    abbrev pub MayExchange : Kind → Phase → Bool → ℕ → ℕ → ℕ → View B D → Type 0
    MayExchange kind phase held i awaited next v =
        (key : S) (slots seat : ℕ) (me : Me (Option S) (View B D)) →
        me.0.stage ≡ One → me.0 ≡ v →
        AllowsStep (Ruled records runs stands key) slots seat me i
        (λ n. either (n == awaited) next n)
        (TellsExchange kind phase held (step slots i awaited next none) me)

    -- the same of a gate
    abbrev pub MayPass : Kind → Phase → Bool → ℕ → Gate → Gate → Seated B D → Type 0
    MayPass kind phase held c from to s =
        MayExchange kind phase held (gate_place c) (gate_word from) (gate_word to) s.view

    -- what taking the turn tells
    abbrev pub TellsTaken :
        Step (Option S) → Me (Option S) (View B D) → ℕ → Me (Option S) (View B D) → Type 0
    TellsTaken st me r me' =
        (r ≡ 0 →
        (x : S) × (me.0.turn ≡ false) × (me'.1 ≡ (0, Some x) ∷ me.1)
        × (me'.0 ≡ with_turn me.0 me'.0.other me'.0.other_share me'.0.running me'.0.seen)
        × Known x me'.0 × Went (entry me.0.core Took ∷ []) me.0 me'.0)
        × (r ≢ 0 → (me' ≡ (saw me.0 me'.0.seen, me.1)) × Looks 1 r me.0 me'.0)

    -- what giving it back tells, with this work
    abbrev pub TellsGiven :
        Work D → Step (Option S) → Me (Option S) (View B D) → ℕ → Me (Option S) (View B D) → Type 0
    TellsGiven work st me r me' =
        (x : S) → me.1 ≡ (0, Some x) ∷ [] →
        (me'
        ≡ (
          without_turn me.0 (records x me.0.core) (runs x) (me.0.share ++ work.items) me'.0.seen,
          [],
        ))
        × Went (handed me.0.core work.event) me.0 me'.0
