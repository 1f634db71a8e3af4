use Rattle.std.proofs.Common.{ap}
use Rattle.cache_gate.specs.Own.{held_of}
use Rattle.cache_gate.proofs.States.{number_begun, made_so}
use Rattle.cache_gate.proofs.steps.make.Goals as goal

-- the step that runs is the one that was begun last
pub finish-requires-clause-begun : goal.finish-requires-clause-begun
finish-requires-clause-begun g c =
    number_begun c.args.seat.now.view.share c.begin.new.seat.view.share c.args.k
    c.args.seat.now.view.registers.regs c.args.step.now
    (ap (λ (h : _). h.share) c.in_default.ensures.exact)

-- it was begun, and ended
pub returns : goal.returns
returns g c =
    made_so (held_of c.args.seat.now) (held_of c.begin.new.seat) (held_of c.finish.new.seat)
    c.args.k c.args.step.now c.finish.result c.in_default.ensures.exact c.in_default.ensures.works
    c.finish.ensures.exact c.finish.ensures.works
