-- A share that the device ended shows its refusal.
use Rattle.std.proofs.Common.{◌≡◌, inl, inr, ℕ, ◌+◌, List, [], ◌∷◌, ◌++◌, length, Result, Ok, Err, sym, ap, ◌∙◌, append_assoc}
use Rattle.core_state.specs.declared.registers.Regs.{Regs}
use Rattle.core_state.specs.Registers.{masked}
use Rattle.nor_device.specs.declared.step.Step.{Step}
use Rattle.nor_device.specs.declared.nor.NorFault.{NorFault}
use Rattle.partition_table.specs.declared.row.Row.{Row}
use Rattle.flash_steps.specs.declared.refusal.PartNo.{PartNo}
use Rattle.flash_steps.specs.Rules.{erase_checked, write_checked}
use Rattle.flash_steps.specs.Parts.{part_erase_steps, part_write_steps}
use Rattle.core_script.specs.declared.action.Action.{Action}
use Rattle.core_script.specs.declared.action.Action.TheVariants.{Fetch, Mask, Irq, Map, Unmap, Write, Erase}
use Rattle.bus_hub.specs.declared.did.Did.{Did}
use Rattle.bus_hub.specs.declared.did.Did.TheVariants.{Opened, Closed, Broken, Fetched, Denied, Unfetched}
use Rattle.flash_ops.specs.Moves.{Ask, Look, Make, Move, Stops, makes}
use Rattle.power_cut.specs.Refused.{IsRefusal}
use Rattle.duo_run.specs.Worker.{BreaksOff, HasEnded, HasStopped, regs_after}

-- a share in which the device refused
pub record HasRefusal (items : List Did) : Type 0 where
  pub front : List Did
  pub did : Did
  pub back : List Did
  pub is : items ≡ front ++ did ∷ back
  pub refusal : IsRefusal did

-- also behind what was done before
behind : (before items all : List Did) → all ≡ before ++ items → HasRefusal items → HasRefusal all
behind before items all is r = record {
  front = before ++ r.front;
  did = r.did;
  back = r.back;
  is = is ∙ ap (λ (l : List Did). before ++ l) r.is
      ∙ sym (append_assoc before r.front (r.did ∷ r.back));
  refusal = r.refusal;
}

denied : (why : NorFault) (items : List Did) → items ≡ Denied why ∷ [] → HasRefusal items
denied why items is =
    record { front = []; did = Denied why; back = []; is = is; refusal = tt }

unfetched : (at len : ℕ) (why : NorFault) (items : List Did) → items ≡ Unfetched at len why ∷ []
    → HasRefusal items
unfetched at len why items is =
    record { front = []; did = Unfetched at len why; back = []; is = is; refusal = tt }

pub stops_refused : (k : ℕ) (regs : Regs) (why : NorFault) (moves : List Move) (items : List Did)
    → Stops k regs why moves items → HasRefusal items
stops_refused k regs why [] items s = absurd s
stops_refused k regs why (Make step ∷ moves) items (inl is) = denied why items is
stops_refused k regs why (Make step ∷ moves) items (inr (inl (left, is))) = record {
  front = Opened k masked step ∷ [];
  did = Broken k masked why left;
  back = [];
  is = is;
  refusal = tt;
}
stops_refused k regs why (Make step ∷ moves) items (inr (inr (rest, is, s))) =
    behind (Opened k masked step ∷ Closed k masked ∷ []) rest items is
    (stops_refused k regs why moves rest s)
stops_refused k regs why (Look at ∷ moves) items (inl is) = unfetched at 4 why items is
stops_refused k regs why (Look at ∷ moves) items (inr (bytes, rest, four, is, s)) =
    behind (Fetched k regs at bytes ∷ []) rest items is (stops_refused k regs why moves rest s)
stops_refused k regs why (Ask ∷ moves) items (inl is) = denied why items is
stops_refused k regs why (Ask ∷ moves) items (inr s) = stops_refused k regs why moves items s

broken : (k : ℕ) (regs : Regs) (why : NorFault) (checked : Result Row PartNo) (steps : List Step)
    (items : List Did) → BreaksOff k regs why checked steps items → HasRefusal items
broken k regs why (Ok row) steps items s = stops_refused k regs why (makes steps) items s
broken k regs why (Err refused_so) steps items s = absurd s

ended : (rows : List Row) (why : NorFault) (k : ℕ) (regs : Regs) (action : Action)
    (items : List Did) → HasEnded rows why k regs action items → HasRefusal items
ended rows why k regs (Fetch at len) items e = unfetched at len why items e.is
ended rows why k regs (Mask mask) items e = absurd e
ended rows why k regs (Irq irq) items e = absurd e
ended rows why k regs (Map space page n) items e = absurd e
ended rows why k regs (Unmap at) items e = absurd e
ended rows why k regs (Write label offset bytes) items e =
    broken k regs why (write_checked rows label.items offset (length bytes))
    (part_write_steps rows label.items offset bytes) items e
ended rows why k regs (Erase label offset len) items e =
    broken k regs why (erase_checked rows label.items offset len)
    (part_erase_steps rows label.items offset len) items e

pub stopped_refused : (rows : List Row) (why : NorFault) (k : ℕ) (regs : Regs)
    (script : List Action) (share : List Did) → HasStopped rows why k regs script share
    → HasRefusal share
stopped_refused rows why k regs [] share s = absurd s
stopped_refused rows why k regs (action ∷ later) share (inl e) =
    ended rows why k regs action share e
stopped_refused rows why k regs (action ∷ later) share (inr j) =
    behind j.items j.rest share j.is
    (stopped_refused rows why (k + 1) (regs_after regs action) later j.rest j.on)
