use Rattle.std.proofs.Common.{◌≡◌, subst}
use Rattle.bus_hub.specs.Hub.{Hub, step_of}
use Rattle.bus_hub.proofs.Goodness.{good_now}
use Rattle.bus_hub.proofs.bus.Bus.safe.Goals as goal

-- by the log, and by the step that the device makes
pub returns : goal.returns
returns g c =
    let n = g.D.Nor in
    let k = g.K.Duty in
    good_now n.may_end n.may_tear n.may_refuse n.must_refuse k.part k.grants k.after k.good
    g.met.K.Duty.torn_good g.met.K.Duty.made_good n.bytes n.running n.off n.steps n.faults
    n.setting g.D.Crash.may_leave g.met.D.Crash.idle_leaves g.met.D.Crash.torn_leaves
    c.args.self.now
    (subst (λ (h : Hub g.row.D.Denot g.row.K.Denot). n.running h.dev ≡ step_of h.running)
    c.self.view_is c.self.invariant.runs)
