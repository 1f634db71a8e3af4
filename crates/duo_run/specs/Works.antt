-- What the second core has to be to work on its script, and what it is then.
use Rattle.std.specs.Prelude.{◌<◌, ◌≤◌, ◌^◌, ℕ, List, length, Result}
use Rattle.nor_device.specs.declared.step.Step.{Step}
use Rattle.nor_device.specs.declared.nor.NorFault.{NorFault}
use Rattle.partition_table.specs.declared.row.Row.{Row}
use Rattle.partition_table.specs.Rules.{FitsFlash}
use Rattle.core_script.specs.declared.action.Action.{Action}
use Rattle.core_script.specs.Action.{IsInBounds}
use Rattle.bus_hub.specs.declared.did.Base.{Base}
use Rattle.bus_hub.specs.declared.did.Did.{Did}
use Rattle.cache_gate.specs.Own.{Own, OnBase, HasRoom, Adds, set_to}
use Rattle.flash_ops.specs.Asked.{MayMakeAll}
use Rattle.duo_run.specs.Worker.{Acted, ShareFrom, action_steps, regs_after, regs_by, worker_steps}
use Rattle.duo_run.specs.Room.{entries_in, bytes_in, entries_in_all, bytes_in_all}

-- the rows of a table obey its rules in the flash of the base
pub record FitsBase {S K : Type 0} (rows : List Row) (b : Base S K) : Type 0 where
  pub fits : FitsFlash (length b.flash) rows
  pub small : length b.flash < 2 ^ 32

module _ {S K P : Type 0} (part : K → ℕ → P) (grants : P → Step → Type 0)
    (moved : P → Step → P) where
  -- the core can do an action: it has room for what the action adds, and its duty allows the steps
  pub record CanAct (rows : List Row) (action : Action) (o : Own (Base S K) Did) : Type 0 where
    pub bounds : IsInBounds action
    pub mask : o.regs.mask ≤ 3
    pub base : OnBase o.base (FitsBase rows)
    pub room : HasRoom o.base o.core o.share (entries_in action) (bytes_in action)
    pub may : MayMakeAll part grants moved o.base o.core o.share (action_steps rows action)

  -- the core can do all actions of a script
  pub record CanWork (rows : List Row) (script : List Action) (o : Own (Base S K) Did)
      : Type 0 where
    pub mask : o.regs.mask ≤ 3
    pub base : OnBase o.base (FitsBase rows)
    pub room : HasRoom o.base o.core o.share (entries_in_all script) (bytes_in_all script)
    pub may : MayMakeAll part grants moved o.base o.core o.share (worker_steps rows script)

-- the core did an action of this number, by whether the device refused, and nothing else
pub record HasActed {B : Type 0} (rows : List Row) (k : ℕ) (action : Action)
    (r : Result (Unit {0}) NorFault) (o o' : Own B Did) : Type 0 where
  pub items : List Did
  pub adds : Adds items (set_to o (regs_after o.regs action)) o'
  pub acted : Acted rows k o.regs action r items

-- the core worked on a script, of which the first action has this number: the items that it added
-- to its share are that of the script, and its registers are those of its last Set
pub record HasWorkedFrom {B : Type 0} (rows : List Row) (k : ℕ) (script : List Action)
    (r : Result (Unit {0}) NorFault) (o o' : Own B Did) : Type 0 where
  pub items : List Did
  pub adds : Adds items (set_to o (regs_by o.regs items)) o'
  pub share : ShareFrom rows k o.regs script r items

-- the same of a whole script
abbrev pub HasWorked : {B : Type 0} → List Row → List Action → Result (Unit {0}) NorFault
    → Own B Did → Own B Did → Type 0
HasWorked rows script r o o' = HasWorkedFrom rows 1 script r o o'
