-- Steps that follow one another.
use Rattle.std.proofs.Common.{◌≤◌, ℕ, List, [], ◌∷◌, arith}
use Rattle.std.specs.List.{AllByRecursion}
use Rattle.nor_device.specs.declared.step.Step.{Step}
use Rattle.nor_device.specs.Flash.{end_of}
use Rattle.flash_steps.specs.Steps.{FollowOn, LiesIn}

-- what lies behind an address lies behind each before it
lower : (low from to : ℕ) (steps : List Step) → low ≤ from → AllByRecursion (LiesIn from to) steps
    → AllByRecursion (LiesIn low to) steps
lower low from to [] below all = tt
lower low from to (step ∷ steps) below all =
    ((omega (arith, all.0.0), all.0.1), lower low from to steps below all.1)

-- they lie between their ends
pub lie_in : (from to : ℕ) (steps : List Step) → FollowOn from to steps
    → (from ≤ to) × AllByRecursion (LiesIn from to) steps
lie_in from to [] is = (omega arith, tt)
lie_in from to (step ∷ steps) is =
    let later = lie_in (end_of step) to steps is.1 in
    let below : from ≤ end_of step = omega (arith, is.0) in (
      omega (arith, later.0, below),
      (
        (omega (arith, is.0), later.0),
        lower from (end_of step) to steps below later.1,
      ),
    )
