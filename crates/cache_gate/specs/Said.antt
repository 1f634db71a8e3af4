-- What a core did in one turn: the event, and the items that it adds to its share.
use Rattle.std.specs.Prelude.{◌≡◌, ℕ, ◌+◌, ◌-◌, ◌≤◌, Bool, true, false, List, [], ◌∷◌, drop, length, Option, Some, None, Result, Ok, Err, ◌⊎◌}
use Rattle.core_state.specs.declared.registers.Regs.{Regs}
use Rattle.duo_machine.specs.declared.events.Kind.{Kind}
use Rattle.duo_machine.specs.declared.events.Kind.TheVariants as kinds
use Rattle.nor_device.specs.declared.step.Step.{Step}
use Rattle.nor_device.specs.declared.nor.Ready.{Ready}
use Rattle.nor_device.specs.declared.nor.Ready.TheVariants as answers
use Rattle.nor_device.specs.declared.nor.NorFault.{NorFault}
use Rattle.park_words.specs.Told.{Work, event_alone, items_alone}
use Rattle.bus_hub.specs.declared.entry.Act.TheVariants.{Set as SetAct}
use Rattle.bus_hub.specs.declared.did.Did.{Did}
use Rattle.bus_hub.specs.declared.did.Did.TheVariants.{Opened, Closed, Broken, Fetched as FetchedItem, Noted, Denied, Mapping, Unmapping}
use Rattle.bus_hub.specs.declared.did.Running.{Running as Going}
use Rattle.bus_hub.specs.declared.reads.FetchNo.{FetchNo}
use Rattle.bus_hub.specs.Fetch.{space_at}
use Rattle.bus_hub.specs.declared.did.Base.{Base}
use Rattle.bus_hub.specs.Room.{HasRoom as HasRoomNow}
use Rattle.bus_hub.specs.Hub.{Hub, needs, byte_needs, owed, room_of}
use Rattle.bus_hub.specs.Told.{asked, polled, fetch_items, held}
use Rattle.bus_hub.specs.Shares.{Begun}
use Rattle.cache_gate.specs.declared.said.Said.{Said}
use Rattle.cache_gate.specs.declared.said.Said.TheVariants.{Saved, Restored, Set, Noting, Fetched, Starting, Polled, Looked, Mapped, Freed}
use Rattle.cache_gate.specs.Works.{Tells, events_in}
use Rattle.cache_gate.specs.Own.{Held, behind}

-- the last bytes
abbrev pub last_of : ℕ → List ℕ → List ℕ
last_of n xs = drop (length xs - n) xs

-- a fetch that was answered is the event Fetch of its space
abbrev pub fetch_event : ℕ → Result (Unit {0}) FetchNo → Option Kind
fetch_event at (Ok _) = Some (kinds.Fetch (space_at at))
fetch_event at (Err why) = None

-- the begin of a step
abbrev pub begin_event : Result (Unit {0}) NorFault → Option Kind
begin_event (Ok _) = Some kinds.Begin
begin_event (Err why) = None

-- the step that runs, as it was begun
abbrev pub begun_items : Regs → Option Going → List Did
begun_items regs None = []
begun_items regs (Some run) = Opened run.k regs run.step ∷ []

abbrev pub start_items : Regs → Option Going → Result (Unit {0}) NorFault → List Did
start_items regs running (Ok _) = begun_items regs running
start_items regs running (Err why) = Denied why ∷ []

-- the end of a step
abbrev pub done_event : Result Ready NorFault → Option Kind
done_event (Ok answers.Busy) = None
done_event (Ok answers.Ready) = Some kinds.Done
done_event (Err why) = Some kinds.Done

-- the step still runs
abbrev pub is_busy : Result Ready NorFault → Bool
is_busy (Ok answers.Busy) = true
is_busy (Ok answers.Ready) = false
is_busy (Err why) = false

-- the step runs now
abbrev pub is_begun : Result (Unit {0}) NorFault → Bool
is_begun (Ok _) = true
is_begun (Err why) = false

-- the number of the action whose step is open
abbrev pub number_of_open : Option Begun → ℕ
number_of_open None = 0
number_of_open (Some b) = b.k

module _ {D K : Type 0} (bytes : D → Option (List ℕ)) where
  -- what was done, where the bus goes back like this
  abbrev pub work_by : Said → Hub D K → Work Did
  work_by Saved h = event_alone kinds.Save
  work_by Restored h = event_alone kinds.Back
  work_by (Set k regs) h =
      record { event = Some (kinds.Set regs); items = Noted k regs SetAct ∷ [] }
  work_by (Noting k regs act) h = items_alone (Noted k regs act ∷ [])
  work_by (Fetched k regs at len answer) h = record {
    event = fetch_event at answer;
    items = fetch_items k regs at len (last_of len h.journal.bytes) answer;
  }
  work_by (Starting regs answer) h =
      record { event = begin_event answer; items = start_items regs h.running answer }
  work_by (Polled k regs answer) h =
      record { event = done_event answer; items = polled k regs (held (bytes h.dev)) answer }
  work_by (Looked answer) h = items_alone (asked answer)
  work_by (Mapped flash_page n space answer) h =
      items_alone (Mapping flash_page n space answer ∷ [])
  work_by (Freed at answer) h = items_alone (Unmapping at answer ∷ [])

-- a poll: what it added to the share, by its answer, where the step left these bytes
pub record HasPolled {B : Type 0} (k : ℕ) (r : Result Ready NorFault) (h h' : Held B Did)
    : Type 0 where
  pub left : List ℕ
  pub is : h' ≡ behind h h.registers (is_busy r) (polled k h.registers.regs left r) h'.seen

-- a fetch that was answered
pub record IsRead {B : Type 0} (k at len : ℕ) (h h' : Held B Did) : Type 0 where
  pub bytes : List ℕ
  pub many : length bytes ≡ len
  pub is :
      h' ≡ behind h h.registers false (FetchedItem k h.registers.regs at bytes ∷ []) h'.seen

-- a fetch: what it added to the share, by its answer
abbrev pub HasRead : {B : Type 0} → ℕ → ℕ → ℕ → Result (Unit {0}) FetchNo → Held B Did
    → Held B Did → Type 0
HasRead k at len (Ok _) h h' = IsRead k at len h h'
HasRead k at len (Err why) h h' =
    h' ≡ behind h h.registers false (fetch_items k h.registers.regs at len [] (Err why)) h'.seen

-- what is within the room of a core, the journal has room for
abbrev pub GivesRoom : {D S K : Type 0} → Base S K → ℕ → List Did → Hub D K → Type 0
GivesRoom b c share h =
    (n m : ℕ) → needs share + n ≤ (room_of b c).entries → byte_needs share + m ≤ (room_of b c).bytes
    → HasRoomNow h.journal (owed h.running + n) m

-- the items of a step's end
abbrev pub ended : ℕ → Regs → List ℕ → Result (Unit {0}) NorFault → List Did
ended k regs left (Ok _) = Closed k regs ∷ []
ended k regs left (Err why) = Broken k regs why left ∷ []

-- the step that ran has ended so, and left these bytes
pub record HasFinished {B : Type 0} (k : ℕ) (r : Result (Unit {0}) NorFault) (h h' : Held B Did)
    : Type 0 where
  pub left : List ℕ
  pub is : h' ≡ behind h h.registers false (ended k h.registers.regs left r) h'.seen

-- these items were added to the share, and nothing is told but their events
pub record Added {B : Type 0} (items : List Did) (h h' : Held B Did) : Type 0 where
  pub is : h' ≡ behind h h.registers false items h'.seen
  pub works : Tells (events_in items) h.core h.seen h'.core h'.seen

-- a step was broken off
pub record IsTorn {B : Type 0} (k : ℕ) (step : Step) (why : NorFault) (h h' : Held B Did)
    : Type 0 where
  pub left : List ℕ
  pub added : Added
      (Opened k h.registers.regs step ∷ Broken k h.registers.regs why left ∷ []) h h'

-- a step was made, or not begun, or broken off
abbrev pub HasMade : {B : Type 0} → ℕ → Step → Result (Unit {0}) NorFault → Held B Did
    → Held B Did → Type 0
HasMade k step (Ok _) h h' =
    Added (Opened k h.registers.regs step ∷ Closed k h.registers.regs ∷ []) h h'
HasMade k step (Err why) h h' = Added (Denied why ∷ []) h h' ⊎ IsTorn k step why h h'
