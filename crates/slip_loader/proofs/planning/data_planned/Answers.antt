use Rattle.std.proofs.Common.{◌≡◌, ℕ, List, length, subst}
use Rattle.std.proofs.lemmas.Result.{IfOk-weaker}
use Rattle.slip_loader.specs.declared.plan.Plan.{Plan}
use Rattle.slip_loader.specs.Plans.{AreBegun, IsBegun}
use Rattle.slip_loader.specs.PlanFacts.{IsPlanIn}
use Rattle.slip_loader.proofs.planning.data_planned.Goals as goal

-- the begin that is open lies in the flash
pub returns-in-Some-clause-inside : goal.returns-in-Some-clause-inside
returns-in-Some-clause-inside c =
    let is : IsBegun c.args.size c.in-Some.begun =
    subst (AreBegun c.args.size) c.in-Some.is c.requires.begun in
    IfOk-weaker c.block_planned.result
    (λ (plan : Plan). (size : ℕ) (block : List ℕ) → IsBegun size c.in-Some.begun
    → length block ≡ c.args.len → IsPlanIn size block plan)
    (λ (plan : Plan). (block : List ℕ) → length block ≡ c.args.len
    → IsPlanIn c.args.size block plan)
    (λ plan all block long. all c.args.size block is long) c.block_planned.ensures.inside
