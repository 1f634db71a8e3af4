use Rattle.bus_hub.proofs.Opening.{opens}
use Rattle.bus_hub.proofs.bus.Bus.new.Goals as goal

-- the empty log leads nowhere else
pub returns-clause-stands : goal.returns-clause-stands
returns-clause-stands g c =
    let n = g.D.Nor in
    let k = g.K.Duty in
    λ b is. opens n.bytes n.off n.steps n.faults n.setting n.may_end n.may_tear n.may_refuse
    n.must_refuse k.part k.grants k.after k.good b c.args.dev c.args.pages c.args.journal
    c.args.duty c.starting.result c.starting-2.result is c.requires.empty c.requires.good
    c.whole.ensures
