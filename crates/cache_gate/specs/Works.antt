-- Which events of the machine a core's own work is: a fetch, a Set, the begin and the end of a step; and
-- what shows of its quiet periods.
use Rattle.std.specs.Prelude.{◌≡◌, ℕ, List, [], ◌∷◌, ◌++◌, Option, Some, None}
use Rattle.core_state.specs.declared.registers.Regs.{Regs}
use Rattle.duo_machine.specs.declared.events.Kind.{Kind}
use Rattle.duo_machine.specs.declared.events.Kind.TheVariants as kinds
use Rattle.park_words.specs.declared.view.Act.{Act}
use Rattle.park_words.specs.declared.view.Act.TheVariants.{Made, Took, Gave}
use Rattle.park_words.specs.declared.view.Entry.{Entry}
use Rattle.park_words.specs.declared.view.View.{View}
use Rattle.park_words.specs.Story.{done_by}
use Rattle.bus_hub.specs.declared.did.Did.{Did}
use Rattle.bus_hub.specs.declared.did.Did.TheVariants.{Opened, Closed, Broken, Fetched, Noted, Denied, Mapping, Unmapping, Missed, Masked, Unfetched}
use Rattle.bus_hub.specs.declared.entry.Act.{Act as Noting}
use Rattle.bus_hub.specs.declared.entry.Act.TheVariants.{Open, Close, Fetch, Set, Mapped, Unmapped, Wrote, Refused}
use Rattle.bus_hub.specs.Fetch.{space_at}

-- the event, where it is work: what a core does to park, or to let the other one park, is none
abbrev pub work_of : Kind → Option Kind
work_of kinds.Begin = Some kinds.Begin
work_of kinds.Done = Some kinds.Done
work_of (kinds.Set regs) = Some (kinds.Set regs)
work_of (kinds.Fetch space) = Some (kinds.Fetch space)
work_of kinds.Start = None
work_of kinds.Rest = None
work_of kinds.Take = None
work_of kinds.Give = None
work_of kinds.Save = None
work_of kinds.Back = None
work_of kinds.Hold = None
work_of kinds.Ask = None
work_of kinds.Park = None
work_of kinds.See = None
work_of kinds.End = None
work_of kinds.Leave = None

-- the event, where it is part of a quiet period: its begin, a step's begin and end, its own end
abbrev pub period_of : Kind → Option Kind
period_of kinds.Begin = Some kinds.Begin
period_of kinds.Done = Some kinds.Done
period_of kinds.Take = Some kinds.Take
period_of kinds.Give = Some kinds.Give
period_of (kinds.Set regs) = None
period_of (kinds.Fetch space) = None
period_of kinds.Start = None
period_of kinds.Rest = None
period_of kinds.Save = None
period_of kinds.Back = None
period_of kinds.Hold = None
period_of kinds.Ask = None
period_of kinds.Park = None
period_of kinds.See = None
period_of kinds.End = None
period_of kinds.Leave = None

-- the event, where it is work or of the lock
abbrev pub told_of : Kind → Option Kind
told_of kinds.Begin = Some kinds.Begin
told_of kinds.Done = Some kinds.Done
told_of (kinds.Set regs) = Some (kinds.Set regs)
told_of (kinds.Fetch space) = Some (kinds.Fetch space)
told_of kinds.Take = Some kinds.Take
told_of kinds.Give = Some kinds.Give
told_of kinds.Start = None
told_of kinds.Rest = None
told_of kinds.Save = None
told_of kinds.Back = None
told_of kinds.Hold = None
told_of kinds.Ask = None
told_of kinds.Park = None
told_of kinds.See = None
told_of kinds.End = None
told_of kinds.Leave = None

-- one more event, or none
abbrev pub before : Option Kind → List Kind → List Kind
before None later = later
before (Some kind) later = kind ∷ later

module _ (pick : Kind → Option Kind) where
  -- what is picked of an entry, before what is picked later
  abbrev pub pick_before : Act → List Kind → List Kind
  pick_before (Made kind) later = before (pick kind) later
  pick_before Took later = later
  pick_before Gave later = later

  -- what is picked of the entries of a run
  abbrev pub picked : List Entry → List Kind
  picked [] = []
  picked (e ∷ run) = pick_before e.act (picked run)

  -- from what a core had seen of the run to what it has seen, exactly this is picked of its own events,
  -- in order
  pub record Picks (events : List Kind) (c : ℕ) (seen : List Entry) (c' : ℕ) (seen' : List Entry)
      : Type 0 where
    pub core : c' ≡ c
    pub later : List Entry
    pub is : seen' ≡ seen ++ later
    pub own : picked (done_by c later) ≡ events

-- the work of an entry, before later work
abbrev pub act_before : Act → List Kind → List Kind
act_before = pick_before work_of

-- the work among the entries of a run
abbrev pub works_of : List Entry → List Kind
works_of = picked work_of

-- from what a core had seen of the run to what it has seen, its own work was exactly this, in order
abbrev pub Works : List Kind → ℕ → List Entry → ℕ → List Entry → Type 0
Works = Picks work_of

-- it took and gave back the lock, and began and ended steps, exactly so, in order
abbrev pub Shows : List Kind → ℕ → List Entry → ℕ → List Entry → Type 0
Shows = Picks period_of

-- it did this work, and took and gave back the lock, exactly so, in order
abbrev pub Tells : List Kind → ℕ → List Entry → ℕ → List Entry → Type 0
Tells = Picks told_of

-- what is told of the event of a turn, if it had one
abbrev pub told_in : Option Kind → List Kind
told_in None = []
told_in (Some kind) = before (told_of kind) []

-- the same of what a seat knows
abbrev pub Worked : {B D : Type 0} → List Kind → View B D → View B D → Type 0
Worked events v w = Tells events v.core v.seen w.core w.seen

-- the event that a note of the journal is
abbrev pub noted_event : Noting → Regs → Option Kind
noted_event (Open erase at len) regs = None
noted_event (Close end) regs = None
noted_event (Fetch at start len) regs = None
noted_event Set regs = Some (kinds.Set regs)
noted_event (Mapped at) regs = None
noted_event (Unmapped at) regs = None
noted_event Wrote regs = None
noted_event (Refused why) regs = None

-- the event that an item of a share is
abbrev pub event_of : Did → Option Kind
event_of (Opened k regs step) = Some kinds.Begin
event_of (Closed k regs) = Some kinds.Done
event_of (Broken k regs why left) = Some kinds.Done
event_of (Fetched k regs at bytes) = Some (kinds.Fetch (space_at at))
event_of (Noted k regs act) = noted_event act regs
event_of (Denied why) = None
event_of (Mapping flash_page n space answer) = None
event_of (Unmapping at answer) = None
event_of (Missed at len) = None
event_of (Masked at len) = None
event_of (Unfetched at len why) = None

-- the events that a share is, in order
abbrev pub events_in : List Did → List Kind
events_in [] = []
events_in (did ∷ share) = before (event_of did) (events_in share)
