-- The steps of a script lie in partitions that may be changed.
use Rattle.std.proofs.Common.{ℕ, List, [], ◌∷◌, ◌++◌}
use Rattle.std.specs.List.{AllByRecursion}
use Rattle.nor_device.specs.declared.step.Step.{Step}
use Rattle.partition_table.specs.declared.row.Row.{Row}
use Rattle.partition_table.specs.Rules.{FitsFlash}
use Rattle.flash_steps.specs.Parts.{LiesInOpenPart}
use Rattle.flash_steps.proofs.OpenLemmas.{erase_in_open, write_in_open}
use Rattle.core_script.specs.declared.action.Action.{Action}
use Rattle.core_script.specs.declared.action.Action.TheVariants.{Fetch, Mask, Irq, Map, Unmap, Write, Erase}
use Rattle.flash_ops.specs.Asked.{GrantsAll}
use Rattle.duo_run.specs.Worker.{action_steps, worker_steps}

all_append : {A : Type 0} (holds : A → Type 0) (xs ys : List A) → AllByRecursion holds xs
    → AllByRecursion holds ys → AllByRecursion holds (xs ++ ys)
all_append holds [] ys x y = y
all_append holds (a ∷ xs) ys x y = (x.0, all_append holds xs ys x.1 y)

action_inside : (flash : ℕ) (rows : List Row) (action : Action) → FitsFlash flash rows
    → AllByRecursion (LiesInOpenPart rows) (action_steps rows action)
action_inside flash rows (Fetch at len) fits = tt
action_inside flash rows (Mask mask) fits = tt
action_inside flash rows (Irq irq) fits = tt
action_inside flash rows (Map space page n) fits = tt
action_inside flash rows (Unmap at) fits = tt
action_inside flash rows (Write label offset bytes) fits =
    write_in_open rows label.items offset bytes
action_inside flash rows (Erase label offset len) fits =
    erase_in_open flash rows label.items offset len fits

pub script_inside : (flash : ℕ) (rows : List Row) (script : List Action) → FitsFlash flash rows
    → AllByRecursion (LiesInOpenPart rows) (worker_steps rows script)
script_inside flash rows [] fits = tt
script_inside flash rows (action ∷ later) fits =
    all_append (LiesInOpenPart rows) (action_steps rows action) (worker_steps rows later)
    (action_inside flash rows action fits) (script_inside flash rows later fits)

-- a part of a duty that allows every step in such partitions, and stays such a part, allows them
-- all
pub grants_open : {P : Type 0} (grants : P → Step → Type 0) (moved : P → Step → P)
    (open_to : P → Type 0) (rows : List Row)
    → ((p : P) (step : Step) → open_to p → LiesInOpenPart rows step
    → grants p step × open_to (moved p step))
    → (steps : List Step) (p : P) → open_to p → AllByRecursion (LiesInOpenPart rows) steps
    → GrantsAll grants moved p steps
grants_open grants moved open_to rows may [] p is all = tt
grants_open grants moved open_to rows may (step ∷ steps) p is all =
    let here = may p step is all.0 in
    (here.0, grants_open grants moved open_to rows may steps (moved p step) here.1 all.1)
