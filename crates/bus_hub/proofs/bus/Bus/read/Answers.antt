use Rattle.bus_hub.proofs.Stepping.{reads}
use Rattle.bus_hub.proofs.bus.Bus.read.Goals as goal

-- a refusal is a mark, and an answer none
pub returns-clause-stands : goal.returns-clause-stands
returns-clause-stands g c =
    let n = g.D.Nor in
    let k = g.K.Duty in
    reads n.bytes n.off n.steps n.faults n.setting n.may_end n.may_tear n.may_refuse
    n.must_refuse k.part k.grants k.after k.good n.size c.args.self.now c.look-answer.new.self
    c.args.c c.look-answer.result c.requires.core c.requires.idle c.look-answer.ensures.exact
    c.look-answer.ensures.device
