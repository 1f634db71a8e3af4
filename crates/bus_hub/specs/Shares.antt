-- What a share, or a whole log, says of steps, pages and bytes.
use Rattle.std.specs.Prelude.{◌≡◌, ◌==◌, ℕ, Bool, false, cond, List, [], ◌∷◌, ◌++◌, Option, Some, None}
use Rattle.core_state.specs.declared.registers.Regs.{Regs}
use Rattle.nor_device.specs.declared.step.Step.{Step}
use Rattle.nor_device.specs.Flash.{after_steps}
use Rattle.nor_device.specs.Nor.{one_more}
use Rattle.mmu_map.specs.Map.{Map, after_map, after_unmap}
use Rattle.bus_hub.specs.declared.did.Running.{Running}
use Rattle.bus_hub.specs.declared.did.Did.{Did}
use Rattle.bus_hub.specs.declared.did.Did.TheVariants.{Opened, Closed, Broken, Fetched, Noted, Denied, Mapping, Unmapping, Missed, Masked, Unfetched}
use Rattle.bus_hub.specs.Fetch.{IsRead}
use Rattle.bus_hub.specs.Log.{Item, item, off_by}

-- a step that was begun, with the number of its action
pub record Begun : Type 0 where
  pub k : ℕ
  pub step : Step

-- the step that runs, of whichever core
abbrev pub begun_of : Option Running → Option Begun
begun_of None = None
begun_of (Some run) = Some (record { k = run.k; step = run.step })

-- the step of a core that runs
abbrev pub own_begun : ℕ → Option Running → Option Begun
own_begun c None = None
own_begun c (Some run) = cond (run.core == c) (begun_of (Some run)) None

-- the steps that end whole where this one does
abbrev pub steps_of : Option Begun → List Step
steps_of None = []
steps_of (Some b) = b.step ∷ []

-- the step that is open after an item
abbrev pub open_after : Option Begun → Did → Option Begun
open_after o (Opened k regs step) = Some (record { k = k; step = step })
open_after o (Closed k regs) = None
open_after o (Broken k regs why left) = None
open_after o (Fetched k regs at bytes) = o
open_after o (Noted k regs act) = o
open_after o (Denied why) = o
open_after o (Mapping flash_page n space answer) = o
open_after o (Unmapping at answer) = o
open_after o (Missed at len) = o
open_after o (Masked at len) = o
open_after o (Unfetched at len why) = o

-- the steps that an item ends whole
abbrev pub made_by : Option Begun → Did → List Step
made_by o (Opened k regs step) = []
made_by o (Closed k regs) = steps_of o
made_by o (Broken k regs why left) = []
made_by o (Fetched k regs at bytes) = []
made_by o (Noted k regs act) = []
made_by o (Denied why) = []
made_by o (Mapping flash_page n space answer) = []
made_by o (Unmapping at answer) = []
made_by o (Missed at len) = []
made_by o (Masked at len) = []
made_by o (Unfetched at len why) = []

-- the step that is open after a share
abbrev pub open_from : Option Begun → List Did → Option Begun
open_from o [] = o
open_from o (did ∷ share) = open_from (open_after o did) share

-- the steps that a share ends whole, in order
abbrev pub made_from : Option Begun → List Did → List Step
made_from o [] = []
made_from o (did ∷ share) = made_by o did ++ made_from (open_after o did) share

-- the same of a share from the opening on
abbrev pub made : List Did → List Step
made share = made_from None share

-- a part of a duty once its core has made the steps
abbrev pub moved_by : {P : Type 0} → (P → Step → P) → P → List Step → P
moved_by moved p [] = p
moved_by moved p (step ∷ steps) = moved_by moved (moved p step) steps

-- what both cores did, in order
abbrev pub all_of : List Item → List Did
all_of [] = []
all_of (x ∷ log) = x.did ∷ all_of log

-- no step was broken off
abbrev pub AreUnbroken : List Did → Type 0
AreUnbroken [] = Unit {0}
AreUnbroken (Opened k regs step ∷ share) = AreUnbroken share
AreUnbroken (Closed k regs ∷ share) = AreUnbroken share
AreUnbroken (Broken k regs why left ∷ share) = ⊥
AreUnbroken (Fetched k regs at bytes ∷ share) = AreUnbroken share
AreUnbroken (Noted k regs act ∷ share) = AreUnbroken share
AreUnbroken (Denied why ∷ share) = AreUnbroken share
AreUnbroken (Mapping flash_page n space answer ∷ share) = AreUnbroken share
AreUnbroken (Unmapping at answer ∷ share) = AreUnbroken share
AreUnbroken (Missed at len ∷ share) = AreUnbroken share
AreUnbroken (Masked at len ∷ share) = AreUnbroken share
AreUnbroken (Unfetched at len why ∷ share) = AreUnbroken share

-- the map after an item
abbrev pub map_after_item : Map → Did → Map
map_after_item m (Opened k regs step) = m
map_after_item m (Closed k regs) = m
map_after_item m (Broken k regs why left) = m
map_after_item m (Fetched k regs at bytes) = m
map_after_item m (Noted k regs act) = m
map_after_item m (Denied why) = m
map_after_item m (Mapping flash_page n space answer) = after_map m flash_page n answer
map_after_item m (Unmapping at answer) = after_unmap m at answer
map_after_item m (Missed at len) = m
map_after_item m (Masked at len) = m
map_after_item m (Unfetched at len why) = m

-- the map after all of them
abbrev pub map_after_all : Map → List Did → Map
map_after_all m [] = m
map_after_all m (did ∷ share) = map_after_all (map_after_item m did) share

-- up to the first step that was broken off, each fetch of the log shows the bytes of the flash
-- after the steps that were made before it, behind the map as it was then
abbrev pub ShowsFlash : Map → List ℕ → List Item → Type 0
ShowsFlash m flash log =
    (before later : List Item) (c k : ℕ) (regs : Regs) (at : ℕ) (bytes : List ℕ)
    → log ≡ before ++ item c (Fetched k regs at bytes) ∷ later → AreUnbroken (all_of before)
    → IsRead (map_after_all m (all_of before)) (after_steps flash (made (all_of before))) at bytes

-- whether the device last answered that the power is off, after an item
abbrev pub off_after : Bool → Did → Bool
off_after off (Opened k regs step) = false
off_after off (Closed k regs) = false
off_after off (Broken k regs why left) = off_by why
off_after off (Fetched k regs at bytes) = false
off_after off (Noted k regs act) = off
off_after off (Denied why) = off_by why
off_after off (Mapping flash_page n space answer) = off
off_after off (Unmapping at answer) = off
off_after off (Missed at len) = off
off_after off (Masked at len) = off
off_after off (Unfetched at len why) = off_by why

-- the same after all of them
abbrev pub off_after_all : Bool → List Did → Bool
off_after_all off [] = off
off_after_all off (did ∷ share) = off_after_all (off_after off did) share

-- the number of the last step, after an item
abbrev pub count_after : ℕ → Did → ℕ
count_after n (Opened k regs step) = one_more n
count_after n (Closed k regs) = n
count_after n (Broken k regs why left) = n
count_after n (Fetched k regs at bytes) = n
count_after n (Noted k regs act) = n
count_after n (Denied why) = n
count_after n (Mapping flash_page m space answer) = n
count_after n (Unmapping at answer) = n
count_after n (Missed at len) = n
count_after n (Masked at len) = n
count_after n (Unfetched at len why) = n

-- the same after all of them
abbrev pub count_after_all : ℕ → List Did → ℕ
count_after_all n [] = n
count_after_all n (did ∷ share) = count_after_all (count_after n did) share

-- the item neither begins nor ends a step, and reads no byte
abbrev pub IsStill : Did → Type 0
IsStill (Opened k regs step) = ⊥
IsStill (Closed k regs) = ⊥
IsStill (Broken k regs why left) = ⊥
IsStill (Fetched k regs at bytes) = ⊥
IsStill (Noted k regs act) = Unit {0}
IsStill (Denied why) = Unit {0}
IsStill (Mapping flash_page n space answer) = Unit {0}
IsStill (Unmapping at answer) = Unit {0}
IsStill (Missed at len) = Unit {0}
IsStill (Masked at len) = Unit {0}
IsStill (Unfetched at len why) = Unit {0}

-- no item does
abbrev pub AreStill : List Did → Type 0
AreStill [] = Unit {0}
AreStill (did ∷ share) = IsStill did × AreStill share

-- after the step of this number every read and start is refused: where no step is open behind a
-- first part of the log, nothing is begun, ended or fetched in the rest
abbrev pub StopsAt : (ℕ → Type 0) → ℕ → List Item → Type 0
StopsAt must_refuse first log =
    (before later : List Item) → log ≡ before ++ later
    → open_from None (all_of before) ≡ None
    → must_refuse (count_after_all first (all_of before)) → AreStill (all_of later)
