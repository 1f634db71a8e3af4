use Rattle.std.proofs.Common.{◌≡◌, ℕ, List, length, arith, length-drop}
use Rattle.std.proofs.lemmas.Result.{IfOk-weaker}
use Rattle.slip_loader.specs.declared.plan.Plan.{Plan}
use Rattle.slip_loader.specs.Plans.{block_of}
use Rattle.slip_loader.specs.PlanFacts.{IsPlanIn}
use Rattle.slip_loader.proofs.planning.plan_data.Goals as goal

-- the block is as long as its field says
pub returns-clause-inside : goal.returns-clause-inside
returns-clause-inside c =
    let block = block_of c.args.frame.now in
    let long : length block ≡ c.field_of-3.result =
    omega (arith, length-drop 24 c.args.frame.now, c.field_of.ensures.exact, c.field_of-3.ensures.exact, c.if-field_of-frame.false) in
    IfOk-weaker c.data_planned.result
    (λ (plan : Plan). (block : List ℕ) → length block ≡ c.field_of-3.result
    → IsPlanIn c.args.size block plan)
    (IsPlanIn c.args.size block) (λ plan all. all block long) c.data_planned.ensures.inside
