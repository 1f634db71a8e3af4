use Rattle.bus_hub.proofs.Facts.{legal_now, shows_now}
use Rattle.bus_hub.proofs.bus.Bus.legal.Goals as goal

-- by induction over the log
pub returns-clause-journal : goal.returns-clause-journal
returns-clause-journal g c =
    let n = g.D.Nor in
    let k = g.K.Duty in
    legal_now n.bytes n.off n.steps n.faults n.setting n.may_end n.may_tear n.may_refuse
    n.must_refuse k.part k.grants k.moved k.after k.good g.met.K.Duty.own g.met.K.Duty.other
    c.args.self.now

pub returns-clause-fetches : goal.returns-clause-fetches
returns-clause-fetches g c =
    let n = g.D.Nor in
    let k = g.K.Duty in
    shows_now n.bytes n.off n.steps n.faults n.setting n.may_end n.may_tear n.may_refuse
    n.must_refuse k.part k.grants k.moved k.after k.good g.met.K.Duty.own g.met.K.Duty.other
    c.args.self.now
