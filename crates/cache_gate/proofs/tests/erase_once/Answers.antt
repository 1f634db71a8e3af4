use Rattle.cache_gate.proofs.Rooms.{step_spends, spends_after, spends_before}
use Rattle.cache_gate.proofs.tests.erase_once.Goals as goal

-- the step alone adds entries
pub returns : goal.returns
returns g c =
    spends_before c.args.core c.leave-core.result c.serve_gate.new.self 2 0
    (spends_before c.args.core c.step.new.self c.leave-core.result 2 0
    (spends_after c.args.core c.enter-quiet.result c.step.new.self 2 0 c.enter-quiet.ensures.keeps
    (step_spends c.enter-quiet.result c.step.new.self _ _ c.step.result c.step.ensures.adds))
    c.leave-core.ensures.keeps) c.serve_gate.ensures.keeps
