-- What the second core leaves of its script: the items of its actions, in order.
use Rattle.std.specs.Prelude.{◌≡◌, ℕ, ◌+◌, List, [], ◌∷◌, ◌++◌, length, Result, Ok, Err, ◌⊎◌}
use Rattle.core_state.specs.declared.registers.Regs.{Regs}
use Rattle.nor_device.specs.declared.step.Step.{Step}
use Rattle.nor_device.specs.declared.nor.NorFault.{NorFault}
use Rattle.image_layout.specs.declared.space.Space.{Space}
use Rattle.mmu_map.specs.declared.runs.NoPages.{NoPages}
use Rattle.mmu_map.specs.declared.runs.NotMapped.{NotMapped}
use Rattle.partition_table.specs.declared.row.Row.{Row}
use Rattle.flash_steps.specs.declared.refusal.PartNo.{PartNo}
use Rattle.flash_steps.specs.declared.refusal.PartNo.TheVariants as part
use Rattle.flash_steps.specs.Rules.{erase_checked, write_checked}
use Rattle.flash_steps.specs.Parts.{part_erase_steps, part_write_steps}
use Rattle.core_script.specs.declared.action.Action.{Action}
use Rattle.core_script.specs.declared.action.Action.TheVariants.{Fetch, Mask, Irq, Map, Unmap, Write, Erase}
use Rattle.bus_hub.specs.declared.entry.Act.{Act}
use Rattle.bus_hub.specs.declared.entry.Act.TheVariants as acts
use Rattle.bus_hub.specs.declared.entry.Why.{Why}
use Rattle.bus_hub.specs.declared.entry.Why.TheVariants as whys
use Rattle.bus_hub.specs.declared.did.Did.{Did}
use Rattle.bus_hub.specs.declared.did.Did.TheVariants.{Opened, Closed, Broken, Fetched, Noted, Denied, Mapping, Unmapping, Missed, Masked, Unfetched}
use Rattle.bus_hub.specs.Fetch.{IsServed}
use Rattle.flash_ops.specs.Moves.{makes, Follows, Stops}

-- ---- what an action means, whatever comes of it

-- the core's registers after an action
abbrev pub regs_after : Regs → Action → Regs
regs_after regs (Fetch at len) = regs
regs_after regs (Mask mask) = record regs { mask = mask }
regs_after regs (Irq irq) = record regs { irq = irq }
regs_after regs (Map space page n) = regs
regs_after regs (Unmap at) = regs
regs_after regs (Write label offset bytes) = regs
regs_after regs (Erase label offset len) = regs

-- the registers after all of them
abbrev pub regs_at : Regs → List Action → Regs
regs_at regs [] = regs
regs_at regs (action ∷ later) = regs_at (regs_after regs action) later

-- the steps of an action: those of a write or an erase of a partition that is not refused
abbrev pub action_steps : List Row → Action → List Step
action_steps rows (Fetch at len) = []
action_steps rows (Mask mask) = []
action_steps rows (Irq irq) = []
action_steps rows (Map space page n) = []
action_steps rows (Unmap at) = []
action_steps rows (Write label offset bytes) = part_write_steps rows label.items offset bytes
action_steps rows (Erase label offset len) = part_erase_steps rows label.items offset len

-- the steps of a script, in order
abbrev pub worker_steps : List Row → List Action → List Step
worker_steps rows [] = []
worker_steps rows (action ∷ later) = action_steps rows action ++ worker_steps rows later

-- why a write or an erase of a partition was refused, as the journal says it
abbrev pub why_of : PartNo → Why
why_of part.NoLabel = whys.NoLabel
why_of part.Dangerous = whys.Dangerous
why_of part.ReadOnly = whys.ReadOnly
why_of part.Encrypted = whys.Encrypted
why_of part.Unaligned = whys.Unaligned
why_of part.Range = whys.Range

-- ---- the items of an action

-- an entry of the action
abbrev pub note : ℕ → Regs → Act → List Did
note k regs act = Noted k regs act ∷ []

-- a refusal of it
abbrev pub refused : ℕ → Regs → Why → List Did
refused k regs why = note k regs (acts.Refused why)

-- a fetch of which the device gave the bytes
pub record IsFetched (k : ℕ) (regs : Regs) (at len : ℕ) (items : List Did) : Type 0 where
  pub served : IsServed regs.mask at
  pub bytes : List ℕ
  pub many : length bytes ≡ len
  pub is : items ≡ Fetched k regs at bytes ∷ []

-- a fetch of a range that is not mapped
abbrev pub IsMissed : ℕ → Regs → ℕ → ℕ → List Did → Type 0
IsMissed k regs at len items = items ≡ Missed at len ∷ refused k regs whys.Unmapped

-- a fetch that the mask does not serve
pub record IsMaskedOut (k : ℕ) (regs : Regs) (at len : ℕ) (items : List Did) : Type 0 where
  pub unserved : ¬ IsServed regs.mask at
  pub is : items ≡ Masked at len ∷ refused k regs whys.Masked

-- what is noted of pages that were asked for
abbrev pub mapped_act : Result ℕ NoPages → Act
mapped_act (Ok at) = acts.Mapped at
mapped_act (Err refusal) = acts.Refused whys.NoPages

-- pages were asked for, and that is noted which the map answered
pub record IsMapped (k : ℕ) (regs : Regs) (space : Space) (page n : ℕ) (items : List Did)
    : Type 0 where
  pub answer : Result ℕ NoPages
  pub is : items ≡ Mapping page n space answer ∷ note k regs (mapped_act answer)

-- what is noted of a run of pages that was to be freed
abbrev pub unmapped_act : ℕ → Result (Unit {0}) NotMapped → Act
unmapped_act at (Ok _) = acts.Unmapped at
unmapped_act at (Err refusal) = acts.Refused whys.NotMapped

-- a run of pages was to be freed, and that is noted which the map answered
pub record IsUnmapped (k : ℕ) (regs : Regs) (at : ℕ) (items : List Did) : Type 0 where
  pub answer : Result (Unit {0}) NotMapped
  pub is : items ≡ Unmapping at answer ∷ note k regs (unmapped_act at answer)

-- the steps were made, and it is noted
pub record IsWritten (k : ℕ) (regs : Regs) (steps : List Step) (items : List Did) : Type 0 where
  pub did : List Did
  pub follows : Follows k regs (makes steps) did
  pub is : items ≡ did ++ note k regs acts.Wrote

-- a write or an erase of a partition, by whether it may be changed so
abbrev pub HasWritten : ℕ → Regs → Result Row PartNo → List Step → List Did → Type 0
HasWritten k regs (Ok row) steps items = IsWritten k regs steps items
HasWritten k regs (Err refusal) steps items = items ≡ refused k regs (why_of refusal)

-- the items of an action of this number, begun with these registers, in which the device did not
-- refuse
abbrev pub HasLeft : List Row → ℕ → Regs → Action → List Did → Type 0
HasLeft rows k regs (Fetch at len) items =
    IsFetched k regs at len items ⊎ (IsMissed k regs at len items ⊎ IsMaskedOut k regs at len items)
HasLeft rows k regs (Mask mask) items = items ≡ note k (record regs { mask = mask }) acts.Set
HasLeft rows k regs (Irq irq) items = items ≡ note k (record regs { irq = irq }) acts.Set
HasLeft rows k regs (Map space page n) items = IsMapped k regs space page n items
HasLeft rows k regs (Unmap at) items = IsUnmapped k regs at items
HasLeft rows k regs (Write label offset bytes) items =
    HasWritten k regs (write_checked rows label.items offset (length bytes))
    (part_write_steps rows label.items offset bytes) items
HasLeft rows k regs (Erase label offset len) items =
    HasWritten k regs (erase_checked rows label.items offset len)
    (part_erase_steps rows label.items offset len) items

-- ---- where the device refused

-- a fetch that the mask serves came to the device, which refused: the mark names the range, which
-- was mapped
pub record IsFetchEnd (why : NorFault) (regs : Regs) (at len : ℕ) (items : List Did)
    : Type 0 where
  pub served : IsServed regs.mask at
  pub is : items ≡ Unfetched at len why ∷ []

-- a write or an erase of a partition that may be changed so came to the device: a first part of its
-- steps was made, and the next one was not begun, or broken off
abbrev pub BreaksOff : ℕ → Regs → NorFault → Result Row PartNo → List Step → List Did → Type 0
BreaksOff k regs why (Ok row) steps items = Stops k regs why (makes steps) items
BreaksOff k regs why (Err refusal) steps items = ⊥

-- the items of an action that came to the device, which refused: of a fetch, a write or an erase
abbrev pub HasEnded : List Row → NorFault → ℕ → Regs → Action → List Did → Type 0
HasEnded rows why k regs (Fetch at len) items = IsFetchEnd why regs at len items
HasEnded rows why k regs (Mask mask) items = ⊥
HasEnded rows why k regs (Irq irq) items = ⊥
HasEnded rows why k regs (Map space page n) items = ⊥
HasEnded rows why k regs (Unmap at) items = ⊥
HasEnded rows why k regs (Write label offset bytes) items =
    BreaksOff k regs why (write_checked rows label.items offset (length bytes))
    (part_write_steps rows label.items offset bytes) items
HasEnded rows why k regs (Erase label offset len) items =
    BreaksOff k regs why (erase_checked rows label.items offset len)
    (part_erase_steps rows label.items offset len) items

-- the items of an action, by whether the device refused
abbrev pub Acted : List Row → ℕ → Regs → Action → Result (Unit {0}) NorFault → List Did → Type 0
Acted rows k regs action (Ok _) items = HasLeft rows k regs action items
Acted rows k regs action (Err why) items = HasEnded rows why k regs action items

-- ---- the whole script

-- the items of one action, and those of the actions behind it
pub record Joins (first later : List Did → Type 0) (share : List Did) : Type 0 where
  pub items : List Did
  pub rest : List Did
  pub is : share ≡ items ++ rest
  pub left : first items
  pub on : later rest

-- the share of a script, of which the first action has this number: all of it was done
abbrev pub HasDone : List Row → ℕ → Regs → List Action → List Did → Type 0
HasDone rows k regs [] share = share ≡ []
HasDone rows k regs (action ∷ later) share =
    Joins (HasLeft rows k regs action) (HasDone rows (k + 1) (regs_after regs action) later) share

-- the same where the device ended it: a first part was done, and the action behind it came to the
-- device, which refused
abbrev pub HasStopped : List Row → NorFault → ℕ → Regs → List Action → List Did → Type 0
HasStopped rows why k regs [] share = ⊥
HasStopped rows why k regs (action ∷ later) share =
    HasEnded rows why k regs action share
    ⊎ Joins (HasLeft rows k regs action)
    (HasStopped rows why (k + 1) (regs_after regs action) later) share

-- the share of a script, of which the first action has this number, by whether the device ended it
abbrev pub ShareFrom : List Row → ℕ → Regs → List Action → Result (Unit {0}) NorFault → List Did
    → Type 0
ShareFrom rows k regs script (Ok _) share = HasDone rows k regs script share
ShareFrom rows k regs script (Err why) share = HasStopped rows why k regs script share

-- the share of the second core, which began with these registers. Its first action has the number
-- 1; how often it was parked changes nothing
abbrev pub WorkerShare : List Row → Regs → List Action → Result (Unit {0}) NorFault → List Did
    → Type 0
WorkerShare rows regs script end share = ShareFrom rows 1 regs script end share

-- ---- the registers that a share leaves

-- the registers after an entry that shows these
abbrev pub regs_by_act : Regs → Regs → Act → Regs
regs_by_act regs shown (acts.Open erase at len) = regs
regs_by_act regs shown (acts.Close end) = regs
regs_by_act regs shown (acts.Fetch at start len) = regs
regs_by_act regs shown acts.Set = shown
regs_by_act regs shown (acts.Mapped at) = regs
regs_by_act regs shown (acts.Unmapped at) = regs
regs_by_act regs shown acts.Wrote = regs
regs_by_act regs shown (acts.Refused why) = regs

-- the registers after an item
abbrev pub regs_by_item : Regs → Did → Regs
regs_by_item regs (Opened k shown step) = regs
regs_by_item regs (Closed k shown) = regs
regs_by_item regs (Broken k shown why left) = regs
regs_by_item regs (Fetched k shown at bytes) = regs
regs_by_item regs (Noted k shown act) = regs_by_act regs shown act
regs_by_item regs (Denied why) = regs
regs_by_item regs (Mapping page n space answer) = regs
regs_by_item regs (Unmapping at answer) = regs
regs_by_item regs (Missed at len) = regs
regs_by_item regs (Masked at len) = regs
regs_by_item regs (Unfetched at len why) = regs

-- the registers after a share: those of its last Set
abbrev pub regs_by : Regs → List Did → Regs
regs_by regs [] = regs
regs_by regs (did ∷ share) = regs_by (regs_by_item regs did) share

-- a list of steps is a first part of another one
pub record IsFirstPart (first steps : List Step) : Type 0 where
  pub later : List Step
  pub is : steps ≡ first ++ later
