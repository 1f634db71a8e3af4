use Rattle.bus_hub.proofs.Fixing.{pages_now, range_now}
use Rattle.bus_hub.proofs.bus.Bus.fixed.Goals as goal

-- no item changes a page that is fixed
pub returns-clause-pages : goal.returns-clause-pages
returns-clause-pages g c =
    let n = g.D.Nor in
    let k = g.K.Duty in
    pages_now n.may_end n.may_tear n.may_refuse n.must_refuse k.part k.grants k.after n.bytes
    n.size n.off n.steps n.faults n.setting k.good g.met.D.Nor.sized c.args.self.now

pub returns-clause-range : goal.returns-clause-range
returns-clause-range g c =
    let n = g.D.Nor in
    let k = g.K.Duty in
    range_now n.may_end n.may_tear n.may_refuse n.must_refuse k.part k.grants k.after n.bytes
    n.size n.off n.steps n.faults n.setting k.good g.met.D.Nor.sized c.args.self.now
