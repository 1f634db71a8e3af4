use Rattle.std.proofs.Common.{ℕ, List}
use Rattle.std.proofs.lemmas.Result.{IfOk-weaker}
use Rattle.slip_loader.specs.declared.plan.Plan.{Plan}
use Rattle.slip_loader.specs.Plans.{AreBegun, block_of}
use Rattle.slip_loader.specs.PlanFacts.{IsPlanIn}
use Rattle.slip_loader.proofs.planning.plan_of.Goals as goal

pub returns-in-8-clause-inside : goal.returns-in-8-clause-inside
returns-in-8-clause-inside c =
    let block = block_of c.args.frame.now in
    IfOk-weaker c.plan_sync.result
    (λ (plan : Plan). (size : ℕ) (block : List ℕ) → AreBegun size c.args.begun
    → IsPlanIn size block plan)
    (IsPlanIn c.args.size block) (λ plan all. all c.args.size block c.requires.begun)
    c.plan_sync.ensures.inside

pub returns-in-2-clause-inside : goal.returns-in-2-clause-inside
returns-in-2-clause-inside c =
    let block = block_of c.args.frame.now in
    IfOk-weaker c.plan_begin.result
    (λ (plan : Plan). (block : List ℕ) → IsPlanIn c.args.size block plan)
    (IsPlanIn c.args.size block) (λ plan all. all block) c.plan_begin.ensures.inside

pub returns-in-4-clause-inside : goal.returns-in-4-clause-inside
returns-in-4-clause-inside c =
    let block = block_of c.args.frame.now in
    IfOk-weaker c.plan_end.result
    (λ (plan : Plan). (size : ℕ) (block : List ℕ) → IsPlanIn size block plan)
    (IsPlanIn c.args.size block) (λ plan all. all c.args.size block) c.plan_end.ensures.inside

pub returns-in-19-clause-inside : goal.returns-in-19-clause-inside
returns-in-19-clause-inside c =
    let block = block_of c.args.frame.now in
    IfOk-weaker c.plan_digest.result
    (λ (plan : Plan). (block : List ℕ) → IsPlanIn c.args.size block plan)
    (IsPlanIn c.args.size block) (λ plan all. all block) c.plan_digest.ensures.inside
