-- What the calls say of the bus, and which items they add.
use Rattle.std.specs.Prelude.{◌≡◌, ℕ, ◌+◌, ◌-◌, ◌<◌, ◌≤◌, Bool, false, IsTrue, List, [], ◌∷◌, length, take, drop, Option, Some, None, IfSome, Result, Ok, Err, OnOk, OnErr, IfErr, IsErrOf}
use Rattle.core_state.specs.declared.registers.Regs.{Regs}
use Rattle.nor_device.specs.declared.step.Step.{Step}
use Rattle.nor_device.specs.declared.nor.Ready.{Ready}
use Rattle.nor_device.specs.declared.nor.Ready.TheVariants as answers
use Rattle.nor_device.specs.declared.nor.StepEnd.{StepEnd}
use Rattle.nor_device.specs.declared.nor.StepEnd.TheVariants as ends
use Rattle.nor_device.specs.declared.nor.NorFault.{NorFault}
use Rattle.nor_device.specs.declared.nor.NorFault.TheVariants as whys
use Rattle.nor_device.specs.Nor.{Rose, one_more, end_by, part_of, HasCause, IsMadeWhole, IsLeftTorn}
use Rattle.bus_hub.specs.declared.entry.Act.TheVariants.{Close, Fetch}
use Rattle.bus_hub.specs.declared.did.Running.{Running}
use Rattle.bus_hub.specs.declared.did.Did.{Did}
use Rattle.bus_hub.specs.declared.did.Base.{Base}
use Rattle.bus_hub.specs.declared.did.Did.TheVariants.{Opened, Closed, Broken, Fetched, Denied, Missed, Masked, Unfetched}
use Rattle.bus_hub.specs.Room.{Kept, with_entry, with_bytes}
use Rattle.mmu_map.specs.Map.{Map, translated}
use Rattle.bus_hub.specs.declared.reads.FetchNo.{FetchNo}
use Rattle.bus_hub.specs.declared.reads.FetchNo.TheVariants as refusals
use Rattle.bus_hub.specs.declared.span.Span.{Span}
use Rattle.bus_hub.specs.Fetch.{IsReachable, IsUnmapped, IsRead, IsServed}
use Rattle.bus_hub.specs.Log.{entry_of, opening, run_of}
use Rattle.bus_hub.specs.Hub.{Hub, record_of, with_record, noted}

-- what a read adds: a mark where it was refused
abbrev pub asked : Result (Unit {0}) NorFault → List Did
asked (Ok _) = []
asked (Err why) = Denied why ∷ []

-- what the begin of a step adds
abbrev pub started : ℕ → Regs → Step → Result (Unit {0}) NorFault → List Did
started k regs step (Ok _) = Opened k regs step ∷ []
started k regs step (Err why) = Denied why ∷ []

-- what a poll adds, where the device holds these bytes after it
abbrev pub polled : ℕ → Regs → List ℕ → Result Ready NorFault → List Did
polled k regs left (Ok answers.Busy) = []
polled k regs left (Ok answers.Ready) = Closed k regs ∷ []
polled k regs left (Err why) = Broken k regs why left ∷ []

-- the number of the action whose step runs
abbrev pub number_of : Option Running → ℕ
number_of None = 0
number_of (Some run) = run.k

-- the bytes that a device tells
abbrev pub held : Option (List ℕ) → List ℕ
held None = []
held (Some flash) = flash

module _ {D K : Type 0} where
  -- the bus with another device
  abbrev pub with_device : Hub D K → D → Hub D K
  with_device h dev = record h { dev = dev }

  -- the bus with these registers of a core in force
  abbrev pub set_to : Hub D K → ℕ → Regs → Hub D K
  set_to h c regs = with_record h c (record (record_of h c) { regs = regs })

  -- the bus once a step of the core runs
  abbrev pub running_step : Hub D K → ℕ → ℕ → Step → D → Hub D K
  running_step h c k step dev =
      record (noted h c k (record_of h c).regs (opening step)) {
        dev = dev;
        running = Some (run_of c k step);
      }

  -- the bus once that step has ended so, by this duty
  abbrev pub ended_step : Hub D K → Running → Regs → StepEnd → K → D → Hub D K
  ended_step h run regs end duty dev =
      record (noted h run.core run.k regs (Close end)) { dev = dev; duty = duty; running = None }

  -- the bus after a poll that answered so
  abbrev pub after_poll : (K → ℕ → Step → K) → Hub D K → Running → Regs → Result Ready NorFault
      → D → Hub D K
  after_poll after h run regs (Ok answers.Busy) dev = with_device h dev
  after_poll after h run regs (Ok answers.Ready) dev =
      ended_step h run regs ends.Done (after h.duty run.core run.step) dev
  after_poll after h run regs (Err why) dev = ended_step h run regs (end_by why) h.duty dev

module _ {D S : Type 0}
    (bytes : D → Option (List ℕ)) (size : D → ℕ) (off : D → Bool) (steps faults : D → ℕ)
    (setting : D → S)
    (may_refuse : S → ℕ → NorFault → Type 0) (must_refuse : S → ℕ → Type 0) where
  -- what a read says of the device
  pub record Asks (old new : D) (r : Result (Unit {0}) NorFault) : Type 0 where
    pub told : bytes new ≡ bytes old
    pub size_same : size new ≡ size old
    pub steps_same : steps new ≡ steps old
    pub setting_same : setting new ≡ setting old
    pub allowed : IfErr r (may_refuse (setting old) (steps old))
    pub stopped : OnOk r (¬ must_refuse (setting old) (steps old))
    pub cause : HasCause (faults old) (faults new) (off new) r

module _ {D S : Type 0}
    (bytes : D → Option (List ℕ)) (off : D → Bool) (steps faults : D → ℕ) (setting : D → S)
    (may_refuse : S → ℕ → NorFault → Type 0) (must_refuse : S → ℕ → Type 0) where
  -- what the begin of a step says of it
  pub record Starts (old new : D) (r : Result (Unit {0}) NorFault) : Type 0 where
    pub told : bytes new ≡ bytes old
    pub counted : OnOk r (steps new ≡ one_more (steps old))
    pub not_counted : OnErr r (steps new ≡ steps old)
    pub setting_same : setting new ≡ setting old
    pub allowed : IfErr r (may_refuse (setting old) (steps old))
    pub stopped : OnOk r (¬ must_refuse (setting old) (steps old))
    pub cause : HasCause (faults old) (faults new) (off new) r

module _ {D S : Type 0}
    (bytes : D → Option (List ℕ)) (off : D → Bool) (steps faults : D → ℕ) (setting : D → S)
    (may_end : S → ℕ → StepEnd → Type 0) (may_tear : S → ℕ → List ℕ → Step → List ℕ → Type 0) where
  -- what a poll says of it
  pub record Polls (old new : D) (running : Option Step) (r : Result Ready NorFault) : Type 0 where
    pub powered : off old ≡ false
    pub busy : r ≡ Ok answers.Busy → bytes new ≡ bytes old
    pub made : r ≡ Ok answers.Ready → IsMadeWhole running (bytes old) (bytes new)
    pub done : r ≡ Ok answers.Ready → may_end (setting old) (steps old) ends.Done
    pub torn : OnErr r (IsLeftTorn (may_tear (setting old) (steps old)) running (bytes old)
        (bytes new))
    pub ended : IfErr r (λ why. may_end (setting old) (steps old) (end_by why))
    pub steps_same : steps new ≡ steps old
    pub setting_same : setting new ≡ setting old
    pub cause : HasCause (faults old) (faults new) (off new) r

-- what a fetch adds, where these bytes were added to the journal
abbrev pub fetch_items : ℕ → Regs → ℕ → ℕ → List ℕ → Result (Unit {0}) FetchNo → List Did
fetch_items k regs at len added (Ok _) = Fetched k regs at added ∷ []
fetch_items k regs at len added (Err refusals.Unmapped) = Missed at len ∷ []
fetch_items k regs at len added (Err refusals.Masked) = Masked at len ∷ []
fetch_items k regs at len added (Err refusals.Off) = Unfetched at len whys.Off ∷ []
fetch_items k regs at len added (Err refusals.Failed) = Unfetched at len whys.Failed ∷ []

-- the bytes that were added to a journal
abbrev pub added : Kept → Kept → List ℕ
added old new = drop (length old.bytes) new.bytes

module _ {D K : Type 0} where
  -- the bus once these bytes were fetched
  abbrev pub fetched : Hub D K → ℕ → ℕ → Regs → ℕ → List ℕ → Hub D K
  fetched h c k regs at bytes =
      record h {
        journal = with_entry (with_bytes h.journal bytes)
            (entry_of c k regs (Fetch at (length h.journal.bytes) (length bytes)));
      }

-- where the bytes of a range lie: so many from one flash address on, and the others from another
-- one on
pub record IsSplit (m : Map) (size at len : ℕ) (span : Span) : Type 0 where
  pub some : 1 ≤ span.front
  pub most : span.front ≤ len
  pub front_is : (i : ℕ) → i < span.front → translated m (at + i) ≡ Some (span.from + i)
  pub front_inside : span.from + span.front ≤ size
  pub then_is : (i : ℕ) → span.front + i < len
      → translated m (at + (span.front + i)) ≡ Some (span.then + i)
  pub then_inside : span.front < len → span.then + (len - span.front) ≤ size

-- the bytes in two parts of the flash, where the device tells them
abbrev pub IsBothParts : Option (List ℕ) → Span → List ℕ → Type 0
IsBothParts told span out = IfSome told (λ flash.
    (take span.front out ≡ part_of flash span.from span.front)
    × (span.front < length out
    → drop span.front out ≡ part_of flash span.then (length out - span.front)))

module _ {D K S : Type 0}
    (bytes : D → Option (List ℕ)) (size : D → ℕ) (off : D → Bool) (steps faults : D → ℕ)
    (setting : D → S)
    (may_refuse : S → ℕ → NorFault → Type 0) (must_refuse : S → ℕ → Type 0) where
  -- a fetch that was answered: each address is there and served, and the bytes are those of the
  -- flash behind the map
  pub record IsFetched (old new : Hub D K) (c k : ℕ) (regs : Regs) (at len : ℕ) : Type 0 where
    pub data_bytes : List ℕ
    pub many : length data_bytes ≡ len
    pub reachable : IsReachable old.map (size old.dev) at len
    pub served : IsServed regs.mask at
    pub device : Asks bytes size off steps faults setting may_refuse must_refuse
        old.dev new.dev (Ok tt)
    pub read : IfSome (bytes old.dev) (λ flash. IsRead old.map flash at data_bytes)
    pub is : new ≡ fetched (with_device old new.dev) c k regs at data_bytes

  -- a fetch that the device refused: each address is there and served
  pub record IsDenied (old new : Hub D K) (regs : Regs) (at len : ℕ) (why : NorFault)
      : Type 0 where
    pub reachable : IsReachable old.map (size old.dev) at len
    pub served : IsServed regs.mask at
    pub device : Asks bytes size off steps faults setting may_refuse must_refuse
        old.dev new.dev (Err why)
    pub is : new ≡ with_device old new.dev

  -- what a fetch says, by its answer
  abbrev pub Fetches : Hub D K → Hub D K → ℕ → ℕ → Regs → ℕ → ℕ → Result (Unit {0}) FetchNo → Type 0
  Fetches old new c k regs at len (Ok _) = IsFetched old new c k regs at len
  Fetches old new c k regs at len (Err refusals.Unmapped) =
      IsUnmapped old.map (size old.dev) at len × (new ≡ old)
  Fetches old new c k regs at len (Err refusals.Masked) =
      IsReachable old.map (size old.dev) at len × (¬ IsServed regs.mask at) × (new ≡ old)
  Fetches old new c k regs at len (Err refusals.Off) = IsDenied old new regs at len whys.Off
  Fetches old new c k regs at len (Err refusals.Failed) = IsDenied old new regs at len whys.Failed

-- why a fetch was refused by the device: a failure only where the count of faults rose, and off
-- only where the power is off
pub record HasFetchCause (before now : ℕ) (off : Bool) (r : Result (Unit {0}) FetchNo)
    : Type 0 where
  pub later : before ≤ now
  pub failed : IsErrOf r refusals.Failed → Rose before now
  pub else_same : ¬ IsErrOf r refusals.Failed → now ≡ before
  pub off_is : IsErrOf r refusals.Off → IsTrue off
  pub on_is : OnOk r (off ≡ false)

-- every flash that a loss of power may leave now is good by the duty, for each base and shares that
-- the bus stands for
abbrev pub IsSafe : {D S K : Type 0} → (Hub D K → Base S K → List Did → List Did → Type 0)
    → (D → List ℕ → Type 0) → (List ℕ → K → List ℕ → Type 0) → Hub D K → Type 0
IsSafe {D} {S} {K} stands may_leave good h =
    (b : Base S K) (left right : List Did) (flash : List ℕ) → stands h b left right
    → may_leave h.dev flash → good b.flash h.duty flash
