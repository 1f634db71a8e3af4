-- The bus as contracts see it, and what it stands for.
use Rattle.std.specs.Prelude.{◌≡◌, ℕ, zero, suc, ◌+◌, ◌≤◌, Bool, true, false, List, [], ◌∷◌, length, Option, Some, None}
use Rattle.core_state.specs.declared.registers.Record.{Record}
use Rattle.core_state.specs.declared.registers.Regs.{Regs}
use Rattle.core_state.specs.Registers.{starting}
use Rattle.nor_device.specs.declared.step.Step.{Step}
use Rattle.nor_device.specs.declared.nor.StepEnd.{StepEnd}
use Rattle.nor_device.specs.declared.nor.NorFault.{NorFault}
use Rattle.mmu_map.specs.Map.{Map, IsWhole}
use Rattle.bus_hub.specs.declared.journal.Room.{Room}
use Rattle.bus_hub.specs.declared.did.Running.{Running}
use Rattle.bus_hub.specs.declared.did.Did.{Did}
use Rattle.bus_hub.specs.declared.did.Did.TheVariants.{Opened, Closed, Broken, Fetched, Noted, Denied, Mapping, Unmapping, Missed, Masked, Unfetched}
use Rattle.bus_hub.specs.declared.did.Base.{Base}
use Rattle.bus_hub.specs.declared.entry.Act.{Act}
use Rattle.bus_hub.specs.Room.{Kept, with_entry}
use Rattle.bus_hub.specs.Log.{State, Stood, entry_of}

-- device, pages, journal, duty, the step that runs, and the registers of both cores
pub record Hub (D K : Type 0) : Type 0 where
  pub dev : D
  pub map : Map
  pub journal : Kept
  pub duty : K
  pub running : Option Running
  pub left : Record
  pub right : Record

-- the bytes of a device are told
pub record IsTold (told : Option (List ℕ)) : Type 0 where
  pub flash : List ℕ
  pub is : told ≡ Some flash

-- the step that runs
abbrev pub step_of : Option Running → Option Step
step_of None = None
step_of (Some run) = Some run.step

-- the core whose step runs
abbrev pub core_of : Option Running → Option ℕ
core_of None = None
core_of (Some run) = Some run.core

module _ {D K : Type 0} where
  -- a bus that was just made
  abbrev pub opened : D → Map → Kept → K → Hub D K
  opened dev map journal duty = record {
    dev = dev;
    map = map;
    journal = journal;
    duty = duty;
    running = None;
    left = starting;
    right = starting;
  }

  -- the registers of a core
  abbrev pub record_of : Hub D K → ℕ → Record
  record_of h zero = h.left
  record_of h (suc c) = h.right

  -- the bus with other registers of a core
  abbrev pub with_record : Hub D K → ℕ → Record → Hub D K
  with_record h zero r = record h { left = r }
  with_record h (suc c) r = record h { right = r }

  -- where its log has led, with this flash, so many failures told, and whether the last answer was
  -- that the power is off
  abbrev pub state_of : Hub D K → List ℕ → ℕ → ℕ → Bool → State K
  state_of h flash steps noted is_off = record {
    flash = flash;
    running = h.running;
    map = h.map;
    duty = h.duty;
    steps = steps;
    noted = noted;
    is_off = is_off;
    entries = h.journal.entries;
    bytes = h.journal.bytes;
  }

  -- the bus with one more entry of a core
  abbrev pub noted : Hub D K → ℕ → ℕ → Regs → Act → Hub D K
  noted h c k regs act = record h { journal = with_entry h.journal (entry_of c k regs act) }

-- where the log begins
abbrev pub begun : {S K : Type 0} → Base S K → State K
begun b = record {
  flash = b.flash;
  running = None;
  map = b.map;
  duty = b.duty;
  steps = b.steps;
  noted = b.faults;
  is_off = b.off;
  entries = [];
  bytes = [];
}

-- how many entries of the journal an item needs: a step's end is counted at its begin
abbrev pub entries_needed : Did → ℕ
entries_needed (Opened k regs step) = 2
entries_needed (Closed k regs) = 0
entries_needed (Broken k regs why left) = 0
entries_needed (Fetched k regs at bytes) = 1
entries_needed (Noted k regs act) = 1
entries_needed (Denied why) = 0
entries_needed (Mapping flash_page n space answer) = 0
entries_needed (Unmapping at answer) = 0
entries_needed (Missed at len) = 0
entries_needed (Masked at len) = 0
entries_needed (Unfetched at len why) = 0

-- how many bytes it needs
abbrev pub bytes_needed : Did → ℕ
bytes_needed (Opened k regs step) = 0
bytes_needed (Closed k regs) = 0
bytes_needed (Broken k regs why left) = 0
bytes_needed (Fetched k regs at bytes) = length bytes
bytes_needed (Noted k regs act) = 0
bytes_needed (Denied why) = 0
bytes_needed (Mapping flash_page n space answer) = 0
bytes_needed (Unmapping at answer) = 0
bytes_needed (Missed at len) = 0
bytes_needed (Masked at len) = 0
bytes_needed (Unfetched at len why) = 0

-- the entries that a share needs
abbrev pub needs : List Did → ℕ
needs [] = 0
needs (did ∷ share) = entries_needed did + needs share

-- the bytes that it needs
abbrev pub byte_needs : List Did → ℕ
byte_needs [] = 0
byte_needs (did ∷ share) = bytes_needed did + byte_needs share

-- the entry that the running step still has to come
abbrev pub owed : Option Running → ℕ
owed None = 0
owed (Some run) = 1

-- the room of a core
abbrev pub room_of : {S K : Type 0} → Base S K → ℕ → Room
room_of b zero = b.left_room
room_of b (suc c) = b.right_room

-- the core's share is within its room
pub record Fits {S K : Type 0} (b : Base S K) (c : ℕ) (share : List Did) : Type 0 where
  pub entries_fit : needs share ≤ (room_of b c).entries
  pub bytes_fit : byte_needs share ≤ (room_of b c).bytes

-- the power, by what the device last answered: where that was that it is off, it is off, or the
-- device may answer again, as a read shows that leaves no item
pub record PowerIs (off is_off : Bool) (must_refuse : Type 0) : Type 0 where
  pub went_off : off ≡ true → is_off ≡ true
  pub came_back : is_off ≡ true → off ≡ false → ¬ must_refuse

module _ {D S K P : Type 0}
    (bytes : D → Option (List ℕ)) (off : D → Bool) (steps faults : D → ℕ) (setting : D → S)
    (may_end : S → ℕ → StepEnd → Type 0) (may_tear : S → ℕ → List ℕ → Step → List ℕ → Type 0)
    (may_refuse : S → ℕ → NorFault → Type 0) (must_refuse : S → ℕ → Type 0)
    (part : K → ℕ → P) (grants : P → Step → Type 0) (after : K → ℕ → Step → K)
    (good : List ℕ → K → List ℕ → Type 0) where
  -- the bus stands for the base and what core 0 and core 1 did: a log of these shares leads to it
  pub record Stands (h : Hub D K) (b : Base S K) (left right : List Did) : Type 0 where
    pub flash : List ℕ
    pub told : bytes h.dev ≡ Some flash
    pub noted : ℕ
    pub counted : noted ≤ faults h.dev
    pub is_off : Bool
    pub power : PowerIs (off h.dev) is_off (must_refuse b.setting (steps h.dev))
    pub setting_is : setting h.dev ≡ b.setting
    pub left_room : h.journal.left_room ≡ b.left_room
    pub right_room : h.journal.right_room ≡ b.right_room
    pub left_fits : Fits b 0 left
    pub right_fits : Fits b 1 right
    pub good_first : good b.flash b.duty b.flash
    pub whole_first : IsWhole b.map
    pub stood : Stood may_end may_tear may_refuse must_refuse part grants after b.setting (begun b)
        (state_of h flash (steps h.dev) noted is_off) left right

module _ {D S K : Type 0}
    (bytes : D → Option (List ℕ)) (off : D → Bool) (steps faults : D → ℕ) (setting : D → S) where
  -- what a base is that a bus is made for
  pub record IsBaseOf (b : Base S K) (dev : D) (map : Map) (journal : Kept) (duty : K)
      : Type 0 where
    pub flash_is : bytes dev ≡ Some b.flash
    pub map_is : b.map ≡ map
    pub duty_is : b.duty ≡ duty
    pub left_is : b.left_room ≡ journal.left_room
    pub right_is : b.right_room ≡ journal.right_room
    pub setting_is : b.setting ≡ setting dev
    pub steps_are : b.steps ≡ steps dev
    pub faults_are : b.faults ≡ faults dev
    pub off_is : b.off ≡ off dev
