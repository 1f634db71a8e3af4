use Rattle.bus_hub.proofs.Facts.{part_now, room_now}
use Rattle.bus_hub.proofs.Knowing.{may_now}
use Rattle.bus_hub.proofs.bus.Bus.known.Goals as goal

-- by the core's share of the log
pub returns-clause-part : goal.returns-clause-part
returns-clause-part g c =
    let n = g.D.Nor in
    let k = g.K.Duty in
    λ b core mine theirs small s. (part_now n.bytes n.off n.steps n.faults n.setting n.may_end
    n.may_tear n.may_refuse n.must_refuse k.part k.grants k.moved k.after k.good
    g.met.K.Duty.own g.met.K.Duty.other c.args.self.now b core mine theirs small s).0

pub returns-clause-step : goal.returns-clause-step
returns-clause-step g c =
    let n = g.D.Nor in
    let k = g.K.Duty in
    λ b core mine theirs small s. (part_now n.bytes n.off n.steps n.faults n.setting n.may_end
    n.may_tear n.may_refuse n.must_refuse k.part k.grants k.moved k.after k.good
    g.met.K.Duty.own g.met.K.Duty.other c.args.self.now b core mine theirs small s).1

-- the other share keeps to its own room
pub returns-clause-room : goal.returns-clause-room
returns-clause-room g c =
    let n = g.D.Nor in
    let k = g.K.Duty in
    room_now n.bytes n.off n.steps n.faults n.setting n.may_end n.may_tear n.may_refuse
    n.must_refuse k.part k.grants k.moved k.after k.good g.met.K.Duty.own g.met.K.Duty.other
    c.args.self.now

-- by its part
pub returns-clause-may : goal.returns-clause-may
returns-clause-may g c =
    let n = g.D.Nor in
    let k = g.K.Duty in
    may_now n.bytes n.size n.off n.steps n.faults n.setting n.may_end n.may_tear n.may_refuse
    n.must_refuse k.part k.grants k.moved k.after k.good g.met.K.Duty.own g.met.K.Duty.other
    g.met.D.Nor.sized c.args.self.now
