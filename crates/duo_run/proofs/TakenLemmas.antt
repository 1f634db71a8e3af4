-- The shares of a leg by the steps that their cores were to make: how many of them they begin, and
-- which they make where nothing broke off.
use Rattle.std.proofs.Common.{◌≡◌, ◌≤◌, ℕ, ◌+◌, List, [], ◌∷◌, ◌++◌, length, length-append, None, Result, Ok, Err, inl, inr, sym, ap, ◌∙◌, arith}
use Rattle.core_state.specs.declared.registers.Regs.{Regs}
use Rattle.core_state.specs.Registers.{reset}
use Rattle.nor_device.specs.declared.step.Step.{Step}
use Rattle.nor_device.specs.declared.nor.NorFault.{NorFault}
use Rattle.partition_table.specs.declared.row.Row.{Row}
use Rattle.flash_steps.specs.declared.refusal.PartNo.{PartNo}
use Rattle.flash_steps.specs.Rules.{erase_checked, write_checked}
use Rattle.flash_steps.specs.Parts.{part_erase_steps, part_write_steps}
use Rattle.core_script.specs.declared.action.Action.{Action}
use Rattle.core_script.specs.declared.action.Action.TheVariants.{Fetch, Mask, Irq, Map, Unmap, Write, Erase}
use Rattle.bus_hub.specs.declared.entry.Act.TheVariants as acts
use Rattle.bus_hub.specs.declared.did.Did.{Did}
use Rattle.bus_hub.specs.Shares.{made, made_from}
use Rattle.flash_ops.specs.Moves.{Ask, Follows, Look, Make, Move, Ran as HasMoved, Stops, makes, steps_of}
use Rattle.flash_ops.proofs.Runs.{made_follows, steps_of_makes}
use Rattle.power_cut.specs.Counts.{opened_in}
use Rattle.duo_run.specs.Worker.{BreaksOff, HasDone, HasEnded, HasLeft, HasStopped, HasWritten, WorkerShare, action_steps, note, regs_after, worker_steps}
use Rattle.duo_run.proofs.StepsLemmas.{MakesSteps}
use Rattle.duo_run.proofs.ShareLemmas.{done_made, left_makes}

-- what a core that was to make these steps leaves: all of them, or, where the device ended it, as
-- many as they are at most
abbrev pub HasTaken : List Step → Result (Unit {0}) NorFault → List Did → Type 0
HasTaken steps (Ok u) share = (made share ≡ steps) × (opened_in share ≡ length steps)
HasTaken steps (Err why) share = opened_in share ≤ length steps

-- it begins no more than these, in every case
pub taken_few : (steps : List Step) (r : Result (Unit {0}) NorFault) (share : List Did)
    → HasTaken steps r share → opened_in share ≤ length steps
taken_few steps (Ok u) share taken = omega (arith, taken.1)
taken_few steps (Err why) share taken = taken

-- ---- moves

pub opened_in-append : (a b : List Did) → opened_in (a ++ b) ≡ opened_in a + opened_in b
opened_in-append [] b = omega arith
opened_in-append (did ∷ a) b = let e = opened_in-append a b in omega (arith, e)

follows_opened : (k : ℕ) (regs : Regs) (ms : List Move) (items : List Did)
    → Follows k regs ms items → opened_in items ≡ length (steps_of ms)
follows_opened k regs [] items f = ap opened_in f
follows_opened k regs (Make step ∷ ms) items f =
    let e = follows_opened k regs ms f.0 f.2 in
    let here = ap opened_in f.1 in omega (arith, e, here)
follows_opened k regs (Look at ∷ ms) items f =
    let e = follows_opened k regs ms f.1 f.4 in
    let here = ap opened_in f.3 in omega (arith, e, here)
follows_opened k regs (Ask ∷ ms) items f = follows_opened k regs ms items f

stops_opened : (k : ℕ) (regs : Regs) (why : NorFault) (ms : List Move) (items : List Did)
    → Stops k regs why ms items → opened_in items ≤ length (steps_of ms)
stops_opened k regs why [] items s = absurd s
stops_opened k regs why (Make step ∷ ms) items (inl is) =
    let here = ap opened_in is in omega (arith, here)
stops_opened k regs why (Make step ∷ ms) items (inr (inl (left, is))) =
    let here = ap opened_in is in omega (arith, here)
stops_opened k regs why (Make step ∷ ms) items (inr (inr (rest, is, s))) =
    let e = stops_opened k regs why ms rest s in
    let here = ap opened_in is in omega (arith, e, here)
stops_opened k regs why (Look at ∷ ms) items (inl is) =
    let here = ap opened_in is in omega (arith, here)
stops_opened k regs why (Look at ∷ ms) items (inr (bytes, rest, four, is, s)) =
    let e = stops_opened k regs why ms rest s in
    let here = ap opened_in is in omega (arith, e, here)
stops_opened k regs why (Ask ∷ ms) items (inl is) =
    let here = ap opened_in is in omega (arith, here)
stops_opened k regs why (Ask ∷ ms) items (inr s) = stops_opened k regs why ms items s

-- the share of moves, whose steps these are
pub moved_taken : (k : ℕ) (regs : Regs) (ms : List Move) (steps : List Step)
    (r : Result (Unit {0}) NorFault) (share : List Did) → steps_of ms ≡ steps
    → HasMoved k regs ms r share → HasTaken steps r share
moved_taken k regs ms steps (Ok u) share is moved = (
  made_follows k regs None ms share moved ∙ is,
  follows_opened k regs ms share moved ∙ ap (λ (l : List Step). length l) is,
)
moved_taken k regs ms steps (Err why) share is moved =
    let few = stops_opened k regs why ms share moved in
    let same = ap (λ (l : List Step). length l) is in omega (arith, few, same)

-- ---- a script

-- a write or an erase: as many steps as it has, none where it is refused
written_opened : (k : ℕ) (regs : Regs) (checked : Result Row PartNo) (steps : List Step)
    (items : List Did) → MakesSteps steps items → HasWritten k regs checked steps items
    → opened_in items ≡ length steps
written_opened k regs (Ok row) steps items m w =
    let here = ap opened_in w.is in
    let both = opened_in-append w.did (note k regs acts.Wrote) in
    let did = follows_opened k regs (makes steps) w.did w.follows in
    let same = ap (λ (l : List Step). length l) (steps_of_makes steps) in
    omega (arith, here, both, did, same)
written_opened k regs (Err refusal) steps items m w =
    let here = ap opened_in w in
    let none = ap (λ (l : List Step). length l) (sym (m.makes None) ∙ ap (made_from None) w) in
    omega (arith, here, none)

left_opened : (rows : List Row) (k : ℕ) (regs : Regs) (action : Action) (items : List Did)
    → HasLeft rows k regs action items → opened_in items ≡ length (action_steps rows action)
left_opened rows k regs (Fetch at len) items (inl f) = ap opened_in f.is
left_opened rows k regs (Fetch at len) items (inr (inl m)) = ap opened_in m
left_opened rows k regs (Fetch at len) items (inr (inr m)) = ap opened_in m.is
left_opened rows k regs (Mask mask) items s = ap opened_in s
left_opened rows k regs (Irq irq) items s = ap opened_in s
left_opened rows k regs (Map space page n) items m = ap opened_in m.is
left_opened rows k regs (Unmap at) items m = ap opened_in m.is
left_opened rows k regs (Write label offset bytes) items w =
    written_opened k regs (write_checked rows label.items offset (length bytes))
    (part_write_steps rows label.items offset bytes) items
    (left_makes rows k regs (Write label offset bytes) items w) w
left_opened rows k regs (Erase label offset len) items w =
    written_opened k regs (erase_checked rows label.items offset len)
    (part_erase_steps rows label.items offset len) items
    (left_makes rows k regs (Erase label offset len) items w) w

broken_opened : (k : ℕ) (regs : Regs) (why : NorFault) (checked : Result Row PartNo)
    (steps : List Step) (items : List Did) → BreaksOff k regs why checked steps items
    → opened_in items ≤ length steps
broken_opened k regs why (Ok row) steps items b =
    let few = stops_opened k regs why (makes steps) items b in
    let same = ap (λ (l : List Step). length l) (steps_of_makes steps) in
    omega (arith, few, same)
broken_opened k regs why (Err refusal) steps items b = absurd b

ended_opened : (rows : List Row) (why : NorFault) (k : ℕ) (regs : Regs) (action : Action)
    (items : List Did) → HasEnded rows why k regs action items
    → opened_in items ≤ length (action_steps rows action)
ended_opened rows why k regs (Fetch at len) items f =
    let here = ap opened_in f.is in omega (arith, here)
ended_opened rows why k regs (Mask mask) items e = absurd e
ended_opened rows why k regs (Irq irq) items e = absurd e
ended_opened rows why k regs (Map space page n) items e = absurd e
ended_opened rows why k regs (Unmap at) items e = absurd e
ended_opened rows why k regs (Write label offset bytes) items e =
    broken_opened k regs why (write_checked rows label.items offset (length bytes))
    (part_write_steps rows label.items offset bytes) items e
ended_opened rows why k regs (Erase label offset len) items e =
    broken_opened k regs why (erase_checked rows label.items offset len)
    (part_erase_steps rows label.items offset len) items e

done_opened : (rows : List Row) (k : ℕ) (regs : Regs) (script : List Action) (share : List Did)
    → HasDone rows k regs script share → opened_in share ≡ length (worker_steps rows script)
done_opened rows k regs [] share d = ap opened_in d
done_opened rows k regs (action ∷ later) share d =
    let here = ap opened_in d.is in
    let both = opened_in-append d.items d.rest in
    let first = left_opened rows k regs action d.items d.left in
    let rest = done_opened rows (k + 1) (regs_after regs action) later d.rest d.on in
    let all = length-append (action_steps rows action) (worker_steps rows later) in
    omega (arith, here, both, first, rest, all)

stopped_opened : (rows : List Row) (why : NorFault) (k : ℕ) (regs : Regs) (script : List Action)
    (share : List Did) → HasStopped rows why k regs script share
    → opened_in share ≤ length (worker_steps rows script)
stopped_opened rows why k regs [] share s = absurd s
stopped_opened rows why k regs (action ∷ later) share (inl e) =
    let here = ended_opened rows why k regs action share e in
    let all = length-append (action_steps rows action) (worker_steps rows later) in
    omega (arith, here, all)
stopped_opened rows why k regs (action ∷ later) share (inr j) =
    let here = ap opened_in j.is in
    let both = opened_in-append j.items j.rest in
    let first = left_opened rows k regs action j.items j.left in
    let rest = stopped_opened rows why (k + 1) (regs_after regs action) later j.rest j.on in
    let all = length-append (action_steps rows action) (worker_steps rows later) in
    omega (arith, here, both, first, rest, all)

-- the share of the second core
pub worker_taken : (rows : List Row) (script : List Action) (r : Result (Unit {0}) NorFault)
    (share : List Did) → WorkerShare rows reset script r share
    → HasTaken (worker_steps rows script) r share
worker_taken rows script (Ok u) share d = (
  done_made rows 1 reset script share d,
  done_opened rows 1 reset script share d,
)
worker_taken rows script (Err why) share s = stopped_opened rows why 1 reset script share s
