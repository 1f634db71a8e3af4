-- What a core is to its caller, and what its seat knows of it.
use Rattle.std.specs.Prelude.{◌≡◌, ℕ, ◌+◌, ◌<◌, ◌≤◌, Bool, false, List, [], ◌∷◌, ◌++◌, length, Option, Some, None, IsNone, IsSome, Result, Ok, Err, ◌⊎◌}
use Rattle.core_state.specs.declared.registers.Record.{Record}
use Rattle.core_state.specs.declared.registers.Regs.{Regs}
use Rattle.core_state.specs.Registers.{masked, own_registers, reset}
use Rattle.core_state.specs.Sharing.{in_order}
use Rattle.nor_device.specs.Nor.{IsPart}
use Rattle.atomic_table.specs.Seated.{TableId}
use Rattle.duo_machine.specs.declared.machine.Phase.{Phase}
use Rattle.duo_machine.specs.declared.machine.Phase.TheVariants.{Running}
use Rattle.duo_machine.specs.declared.events.Kind.{Kind}
use Rattle.duo_machine.specs.declared.events.Kind.TheVariants as kinds
use Rattle.duo_machine.specs.Machine.{first_machine}
use Rattle.duo_machine.specs.Runs.{IsSafeRun, last_set}
use Rattle.nor_device.specs.declared.step.Step.{Step}
use Rattle.nor_device.specs.declared.nor.NorFault.{NorFault}
use Rattle.park_words.specs.declared.view.Entry.{Entry}
use Rattle.park_words.specs.Views.{Seated}
use Rattle.park_words.specs.Story.{CanBeMade, Saw, events_of, done_by}
use Rattle.bus_hub.specs.declared.did.Did.{Did}
use Rattle.bus_hub.specs.declared.did.Did.TheVariants.{Opened, Closed, Broken, Denied, Fetched}
use Rattle.bus_hub.specs.declared.did.Base.{Base}
use Rattle.bus_hub.specs.declared.reads.FetchNo.{FetchNo}
use Rattle.bus_hub.specs.Hub.{Hub, needs, byte_needs, room_of}
use Rattle.bus_hub.specs.Shares.{made, moved_by}
use Rattle.bus_hub.specs.Told.{fetch_items, held}
use Rattle.cache_gate.specs.Works.{Works, Shows, works_of, events_in}

-- what a seat knows of its own core
pub record Held (B D : Type 0) : Type 0 where
  pub table : TableId
  pub core : ℕ
  pub phase : Phase
  pub base : Option B
  pub registers : Record
  pub share : List D
  pub turn : Bool
  pub stepping : Bool
  pub seen : List Entry

-- what a core is to its caller: at which table, which core, over which base; its own registers, what it
-- did, and the run of both cores as far as it has seen it
pub record Own (B D : Type 0) : Type 0 where
  pub table : TableId
  pub core : ℕ
  pub base : Option B
  pub regs : Regs
  pub share : List D
  pub seen : List Entry

module _ {B D : Type 0} where
  abbrev pub held_of : Seated B D → Held B D
  held_of s = record {
    table = s.table;
    core = s.view.core;
    phase = s.view.phase;
    base = s.view.base;
    registers = s.view.registers;
    share = s.view.share;
    turn = s.view.turn;
    stepping = s.view.stepping;
    seen = s.view.seen;
  }

  abbrev pub own_of : Held B D → Own B D
  own_of h = record {
    table = h.table;
    core = h.core;
    base = h.base;
    regs = own_registers h.registers;
    share = h.share;
    seen = h.seen;
  }

  -- one turn later: its registers, whether a step of its own runs, and new items in the share
  abbrev pub behind : Held B D → Record → Bool → List D → List Entry → Held B D
  behind h registers stepping items seen = record h {
    registers = registers;
    share = h.share ++ items;
    turn = false;
    stepping = stepping;
    seen = seen;
  }

  -- the same with nothing new in the share
  abbrev pub kept : Held B D → Record → List Entry → Held B D
  kept h registers seen =
      record h { registers = registers; turn = false; stepping = false; seen = seen }

  -- in another phase
  abbrev pub to_phase : Held B D → Phase → List Entry → Held B D
  to_phase h phase seen = record h { phase = phase; seen = seen }

  -- only more of the run is seen
  abbrev pub later_on : Held B D → List Entry → Held B D
  later_on h seen = record h { seen = seen }

  -- the core once it has seen more of the run
  abbrev pub saw : Own B D → List Entry → Own B D
  saw o seen = record o { seen = seen }

  -- the core with other registers of its own
  abbrev pub set_to : Own B D → Regs → Own B D
  set_to o regs = record o { regs = regs }

  -- the core with these items at the end of its share
  abbrev pub did : Own B D → List D → List Entry → Own B D
  did o items seen = record o { share = o.share ++ items; seen = seen }

  -- the core is as before, but for what it has seen of the run, and it did no work
  pub record Keeps (o o' : Own B D) : Type 0 where
    pub is : o' ≡ saw o o'.seen
    pub works : Works [] o.core o.seen o'.core o'.seen

-- of what the core did meanwhile, exactly this shows of quiet periods: Take and Give of the lock, Begin and
-- Done of steps, in order
abbrev pub HasShown : {B D : Type 0} → List Kind → Own B D → Own B D → Type 0
HasShown events o o' = Shows events o.core o.seen o'.core o'.seen

-- what shows of a step, by its answer: it was begun and has ended; where it was refused, it was begun and has
-- ended, or was not begun
abbrev pub HasShownStep : {B D : Type 0} → Result (Unit {0}) NorFault → Own B D → Own B D → Type 0
HasShownStep (Ok _) o o' = HasShown (kinds.Begin ∷ kinds.Done ∷ []) o o'
HasShownStep (Err why) o o' =
    HasShown [] o o' ⊎ HasShown (kinds.Begin ∷ kinds.Done ∷ []) o o'

-- the core added exactly these items to its share, and its work was exactly their events
pub record Adds {B : Type 0} (items : List Did) (o o' : Own B Did) : Type 0 where
  pub is : o' ≡ did o items o'.seen
  pub works : Works (events_in items) o.core o.seen o'.core o'.seen

-- the work that the core has seen of itself is that of its share
abbrev pub IsTrueTo : {B : Type 0} → Held B Did → Type 0
IsTrueTo h = works_of (done_by h.core h.seen) ≡ events_in h.share

-- a running core: nothing is saved
pub record IsRunning {B : Type 0} (words : TableId) (h : Held B Did) : Type 0 where
  pub table : h.table ≡ words
  pub small : h.core < 2
  pub phase : h.phase ≡ Running
  pub unsaved : IsNone h.registers.saved
  pub turn : h.turn ≡ false
  pub stepping : h.stepping ≡ false
  pub true_to : IsTrueTo h

-- a masked core: its own registers are saved
pub record IsMaskedIn {B : Type 0} (phase : Phase) (words : TableId) (h : Held B Did)
    : Type 0 where
  pub table : h.table ≡ words
  pub small : h.core < 2
  pub phase_is : h.phase ≡ phase
  pub saved : IsSome h.registers.saved
  pub masked_is : h.registers.regs ≡ masked
  pub turn : h.turn ≡ false
  pub stepping : h.stepping ≡ false
  pub true_to : IsTrueTo h

-- what holds of the base, where there is one
abbrev pub OnBase : {B : Type 0} → Option B → (B → Type 0) → Type 0
OnBase None holds = ⊥
OnBase (Some b) holds = holds b

-- so many entries more, and so many bytes, are within the room of the core
pub record HasRoomIn {S K : Type 0} (b : Base S K) (c : ℕ) (share : List Did) (entries bytes : ℕ)
    : Type 0 where
  pub entries_fit : needs share + entries ≤ (room_of b c).entries
  pub bytes_fit : byte_needs share + bytes ≤ (room_of b c).bytes

module _ {S K : Type 0} where
  abbrev pub HasRoom : Option (Base S K) → ℕ → List Did → ℕ → ℕ → Type 0
  HasRoom base c share entries bytes = OnBase base (λ b. HasRoomIn b c share entries bytes)

  -- so many bytes are in the flash
  abbrev pub IsInside : Option (Base S K) → ℕ → Type 0
  IsInside base n = OnBase base (λ b. n ≤ length b.flash)

  -- the duty allows the step to the core, by what the core has made
  abbrev pub MayMake : {P : Type 0} → (K → ℕ → P) → (P → Step → Type 0) → (P → Step → P)
      → Option (Base S K) → ℕ → List Did → Step → Type 0
  MayMake part grants moved base c share step =
      OnBase base (λ b. grants (moved_by moved (part b.duty c) (made share)) step)

-- a fetch that was answered
pub record IsFetched {B : Type 0} (k at len : ℕ) (o o' : Own B Did) : Type 0 where
  pub bytes : List ℕ
  pub many : length bytes ≡ len
  pub adds : Adds (Fetched k o.regs at bytes ∷ []) o o'

-- a fetch: what it added to the share, by its answer
abbrev pub HasFetched : {B : Type 0} → ℕ → ℕ → ℕ → Result (Unit {0}) FetchNo → Own B Did
    → Own B Did → Type 0
HasFetched k at len (Ok _) o o' = IsFetched k at len o o'
HasFetched k at len (Err why) o o' = Adds (fetch_items k o.regs at len [] (Err why)) o o'

-- some bus that stands for the base, this share of the core and some share of the other one has these bytes
-- there
pub record IsPartOf {H B : Type 0} (stands : H → B → List Did → List Did → Type 0)
    (bytes : H → Option (List ℕ)) (b : B) (c : ℕ) (share : List Did) (at : ℕ) (out : List ℕ)
    : Type 0 where
  pub bus : H
  pub theirs : List Did
  pub stands_by : in_order (stands bus b) c share theirs
  pub part : IsPart (bytes bus) at (length out) out

-- a step that was made whole
abbrev pub AddsWholeStep : {B : Type 0} → ℕ → Step → Own B Did → Own B Did → Type 0
AddsWholeStep k step o o' = Adds (Opened k masked step ∷ Closed k masked ∷ []) o o'

-- a step that was broken off, and left this flash
pub record IsBroken {B : Type 0} (k : ℕ) (step : Step) (why : NorFault) (o o' : Own B Did)
    : Type 0 where
  pub left : List ℕ
  pub adds : Adds (Opened k masked step ∷ Broken k masked why left ∷ []) o o'

-- what a step added to the share, by its answer: it was made; or it was not begun, or broken off
abbrev pub HasStepped : {B : Type 0} → ℕ → Step → Result (Unit {0}) NorFault → Own B Did
    → Own B Did → Type 0
HasStepped k step (Ok _) o o' = AddsWholeStep k step o o'
HasStepped k step (Err why) o o' = Adds (Denied why ∷ []) o o' ⊎ IsBroken k step why o o'

-- what both cores leave: one run of both, of which each has seen a beginning and nothing of its own came
-- later. No core fetched in it while a step ran, the work in it is that of their shares, and each
-- core's registers are those of its own last Set
pub record RanBoth {B : Type 0} (a b : Own B Did) : Type 0 where
  pub run : List Entry
  pub made : CanBeMade run
  pub saw_first : Saw run a.core a.seen
  pub saw_second : Saw run b.core b.seen
  pub safe : IsSafeRun first_machine (events_of run)
  pub first_work : works_of (done_by a.core run) ≡ events_in a.share
  pub second_work : works_of (done_by b.core run) ≡ events_in b.share
  pub first_regs : a.regs ≡ last_set a.core (events_of a.seen) reset
  pub second_regs : b.regs ≡ last_set b.core (events_of b.seen) reset

-- a core that was just opened
abbrev pub IsFirst : {B : Type 0} → TableId → ℕ → B → Own B Did → Type 0
IsFirst words c base o =
    o
    ≡ record { table = words; core = c; base = Some base; regs = reset; share = []; seen = [] }

-- the base that a bus is opened with
module _ {D S K : Type 0}
    (bytes : D → Option (List ℕ)) (off : D → Bool) (steps faults : D → ℕ) (setting : D → S) where
  abbrev pub base_of : Hub D K → Base S K
  base_of h = record {
    flash = held (bytes h.dev);
    map = h.map;
    duty = h.duty;
    left_room = h.journal.left_room;
    right_room = h.journal.right_room;
    setting = setting h.dev;
    steps = steps h.dev;
    faults = faults h.dev;
    off = off h.dev;
  }
