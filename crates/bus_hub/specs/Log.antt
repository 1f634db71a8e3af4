-- The log of both cores, replayed item by item.
use Rattle.std.specs.Prelude.{◌≡◌, ◌==◌, ℕ, ◌<◌, Bool, true, false, cond, List, [], ◌∷◌, ◌++◌, length, Option, Some, None}
use Rattle.core_state.specs.declared.registers.Regs.{Regs}
use Rattle.nor_device.specs.declared.step.Step.{Step}
use Rattle.nor_device.specs.declared.nor.StepEnd.{StepEnd}
use Rattle.nor_device.specs.declared.nor.StepEnd.TheVariants as ends
use Rattle.nor_device.specs.declared.nor.NorFault.{NorFault}
use Rattle.nor_device.specs.declared.nor.NorFault.TheVariants.{Failed, Off}
use Rattle.nor_device.specs.Flash.{start_of, len_of, applied}
use Rattle.nor_device.specs.Torn.{Torn}
use Rattle.nor_device.specs.Nor.{one_more, end_by}
use Rattle.crash_images.specs.Tear.{is_erase}
use Rattle.mmu_map.specs.Map.{Map, IsMapAnswer, after_map, IsUnmapAnswer, after_unmap}
use Rattle.bus_hub.specs.declared.entry.Act.{Act}
use Rattle.bus_hub.specs.declared.entry.Act.TheVariants.{Open, Close, Fetch, Set, Mapped, Unmapped, Wrote, Refused}
use Rattle.bus_hub.specs.declared.entry.Entry.{Entry}
use Rattle.bus_hub.specs.declared.did.Running.{Running}
use Rattle.bus_hub.specs.declared.did.Did.{Did}
use Rattle.bus_hub.specs.declared.did.Did.TheVariants.{Opened, Closed, Broken, Fetched, Noted, Denied, Mapping, Unmapping, Missed, Masked, Unfetched}
use Rattle.bus_hub.specs.Fetch.{IsReachable, IsUnmapped, IsRead}

-- one item of the log: what a core did
pub record Item : Type 0 where
  pub core : ℕ
  pub did : Did

-- an item of a core
abbrev pub item : ℕ → Did → Item
item core did = record { core = core; did = did }

-- what a core did, of all that both did
abbrev pub of_core : ℕ → List Item → List Did
of_core c [] = []
of_core c (x ∷ log) = cond (x.core == c) (x.did ∷ of_core c log) (of_core c log)

-- an entry of the journal
abbrev pub entry_of : ℕ → ℕ → Regs → Act → Entry
entry_of core k regs act = record { core = core; k = k; regs = regs; act = act }

-- the entry of a step that begins
abbrev pub opening : Step → Act
opening step = Open (is_erase step) (start_of step) (len_of step)

-- the step of a core that runs, and the number of its action
abbrev pub run_of : ℕ → ℕ → Step → Running
run_of core k step = record { core = core; k = k; step = step }

-- an act that a core notes by itself
abbrev pub IsNote : Act → Type 0
IsNote (Open erase at len) = ⊥
IsNote (Close end) = ⊥
IsNote (Fetch at start len) = ⊥
IsNote Set = ⊥
IsNote (Mapped at) = Unit {0}
IsNote (Unmapped at) = Unit {0}
IsNote Wrote = Unit {0}
IsNote (Refused why) = Unit {0}

-- an act that is neither a step's nor a fetch
abbrev pub IsPlain : Act → Type 0
IsPlain (Open erase at len) = ⊥
IsPlain (Close end) = ⊥
IsPlain (Fetch at start len) = ⊥
IsPlain Set = Unit {0}
IsPlain (Mapped at) = Unit {0}
IsPlain (Unmapped at) = Unit {0}
IsPlain Wrote = Unit {0}
IsPlain (Refused why) = Unit {0}

-- the failures that are told, with one refusal more
abbrev pub noted_by : NorFault → ℕ → ℕ
noted_by Failed noted = one_more noted
noted_by Off noted = noted

-- the power is off, by a refusal
abbrev pub off_by : NorFault → Bool
off_by Failed = false
off_by Off = true

-- where the log leads: the flash before the step that runs; that step; the map; the duty; the
-- number of steps; how many failures were told; whether the last answer of the device was that the
-- power is off; and the journal
pub record State (K : Type 0) : Type 0 where
  pub flash : List ℕ
  pub running : Option Running
  pub map : Map
  pub duty : K
  pub steps : ℕ
  pub noted : ℕ
  pub is_off : Bool
  pub entries : List Entry
  pub bytes : List ℕ

-- the state with one more entry
abbrev pub with_one : {K : Type 0} → State K → Entry → State K
with_one s entry = record s { entries = s.entries ++ entry ∷ [] }

module _ {K : Type 0} (after : K → ℕ → Step → K) where
  -- the state with the running step made whole
  abbrev pub made_whole : State K → ℕ → Option Running → State K
  made_whole s c None = s
  made_whole s c (Some run) =
      record s { flash = applied s.flash run.step; duty = after s.duty c run.step }

  -- the state after one item of a core
  abbrev pub change : State K → ℕ → Did → State K
  change s c (Opened k regs step) =
      record (with_one s (entry_of c k regs (opening step))) {
        running = Some (run_of c k step);
        steps = one_more s.steps;
        is_off = false;
      }
  change s c (Closed k regs) =
      record (with_one (made_whole s c s.running) (entry_of c k regs (Close ends.Done))) {
        running = None;
        is_off = false;
      }
  change s c (Broken k regs why left) =
      record (with_one s (entry_of c k regs (Close (end_by why)))) {
        flash = left;
        running = None;
        noted = noted_by why s.noted;
        is_off = off_by why;
      }
  change s c (Fetched k regs at bytes) =
      record (with_one s (entry_of c k regs (Fetch at (length s.bytes) (length bytes)))) {
        bytes = s.bytes ++ bytes;
        is_off = false;
      }
  change s c (Noted k regs act) = with_one s (entry_of c k regs act)
  change s c (Denied why) = record s { noted = noted_by why s.noted; is_off = off_by why }
  change s c (Mapping flash_page n space answer) =
      record s { map = after_map s.map flash_page n answer }
  change s c (Unmapping at answer) = record s { map = after_unmap s.map at answer }
  change s c (Missed at len) = s
  change s c (Masked at len) = s
  change s c (Unfetched at len why) = record s { noted = noted_by why s.noted; is_off = off_by why }

  -- the state after all items of a log
  abbrev pub reached : State K → List Item → State K
  reached s [] = s
  reached s (x ∷ log) = reached (change s x.core x.did) log

-- a step of the core runs, and this holds of it
abbrev pub Runs : ℕ → (Running → Type 0) → Option Running → Type 0
Runs c P None = ⊥
Runs c P (Some run) = (run.core ≡ c) × P run

module _ {S K P : Type 0}
    (may_end : S → ℕ → StepEnd → Type 0) (may_tear : S → ℕ → List ℕ → Step → List ℕ → Type 0)
    (may_refuse : S → ℕ → NorFault → Type 0) (must_refuse : S → ℕ → Type 0)
    (part : K → ℕ → P) (grants : P → Step → Type 0) (after : K → ℕ → Step → K) where
  -- what has to hold where the item comes
  abbrev pub Rule : S → State K → ℕ → Did → Type 0
  -- no step is open, the duty allows this one, and the device may begin one
  Rule set s c (Opened k regs step) =
      (s.running ≡ None) × grants (part s.duty c) step × (¬ must_refuse set s.steps)
  -- a step of this core and number is open, and may end so
  Rule set s c (Closed k regs) =
      Runs c (λ run. run.k ≡ k) s.running × may_end set s.steps ends.Done
  -- the same, and the flash is torn as the device may leave it
  Rule set s c (Broken k regs why left) =
      Runs c (λ run. (run.k ≡ k) × Torn s.flash run.step left
      × may_tear set s.steps s.flash run.step left) s.running
      × may_end set s.steps (end_by why)
  -- no step is open, the device may answer, and the bytes are those of the flash behind the map
  Rule set s c (Fetched k regs at bytes) =
      (s.running ≡ None) × (¬ must_refuse set s.steps) × IsRead s.map s.flash at bytes
  Rule set s c (Noted k regs act) = (s.running ≡ None) × IsPlain act
  Rule set s c (Denied why) = (s.running ≡ None) × may_refuse set s.steps why
  Rule set s c (Mapping flash_page n space answer) =
      (s.running ≡ None) × IsMapAnswer s.map n space answer
  Rule set s c (Unmapping at answer) = (s.running ≡ None) × IsUnmapAnswer s.map at answer
  Rule set s c (Missed at len) = (s.running ≡ None) × IsUnmapped s.map (length s.flash) at len
  Rule set s c (Masked at len) = (s.running ≡ None) × IsReachable s.map (length s.flash) at len
  -- no step is open, the range is mapped, and the device may refuse
  Rule set s c (Unfetched at len why) =
      (s.running ≡ None) × may_refuse set s.steps why × IsReachable s.map (length s.flash) at len

  -- each item is of core 0 or 1 and keeps its rule when its turn comes
  abbrev pub Ruled : S → State K → List Item → Type 0
  Ruled set s [] = Unit {0}
  Ruled set s (x ∷ log) =
      (x.core < 2) × Rule set s x.core x.did × Ruled set (change after s x.core x.did) log

  -- a log of both shares leads from the first state to this one
  pub record Stood (set : S) (first now : State K) (left right : List Did) : Type 0 where
    pub log : List Item
    pub left_is : of_core 0 log ≡ left
    pub right_is : of_core 1 log ≡ right
    pub ruled : Ruled set first log
    pub leads : reached after first log ≡ now
