use Rattle.bus_hub.proofs.Stops.{size_now, count_now, power_now, stops_now}
use Rattle.bus_hub.proofs.bus.Bus.lasting.Goals as goal

-- no item changes the length of the flash
pub returns-clause-size : goal.returns-clause-size
returns-clause-size g c =
    let n = g.D.Nor in
    let k = g.K.Duty in
    size_now n.may_end n.may_tear n.may_refuse n.must_refuse k.part k.grants k.after n.bytes
    n.size n.off n.steps n.faults n.setting k.good g.met.D.Nor.sized c.args.self.now

-- by the items of the log
pub returns-clause-counted : goal.returns-clause-counted
returns-clause-counted g c =
    let n = g.D.Nor in
    let k = g.K.Duty in
    count_now n.may_end n.may_tear n.may_refuse n.must_refuse k.part k.grants k.after n.bytes
    n.size n.off n.steps n.faults n.setting k.good g.met.D.Nor.sized c.args.self.now

pub returns-clause-power : goal.returns-clause-power
returns-clause-power g c =
    let n = g.D.Nor in
    let k = g.K.Duty in
    power_now n.may_end n.may_tear n.may_refuse n.must_refuse k.part k.grants k.after n.bytes
    n.size n.off n.steps n.faults n.setting k.good g.met.D.Nor.sized c.args.self.now

pub returns-clause-stops : goal.returns-clause-stops
returns-clause-stops g c =
    let n = g.D.Nor in
    let k = g.K.Duty in
    stops_now n.may_end n.may_tear n.may_refuse n.must_refuse k.part k.grants k.after n.bytes
    n.size n.off n.steps n.faults n.setting k.good g.met.D.Nor.sized c.args.self.now
