use Rattle.std.proofs.Common.{subst}
use Rattle.core_state.specs.declared.registers.Record.{Record}
use Rattle.bus_hub.specs.Hub.{record_of}
use Rattle.bus_hub.specs.Told.{Fetches}
use Rattle.bus_hub.proofs.Fetching.{fetches}
use Rattle.bus_hub.proofs.bus.Bus.fetch.Goals as goal

-- by the answer
pub returns-clause-stands : goal.returns-clause-stands
returns-clause-stands g c =
    let n = g.D.Nor in
    let k = g.K.Duty in
    fetches n.bytes n.size n.off n.steps n.faults n.setting n.may_end n.may_tear n.may_refuse
    n.must_refuse k.part k.grants k.after k.good g.met.D.Nor.sized c.args.self.now
    c.fetch_in-answer.new.self c.args.c c.args.k (record_of c.args.self.now c.args.c).regs c.args.at
    c.args.len c.fetch_in-answer.result c.requires.core c.requires.idle
    (subst (λ (r : Record). Fetches n.bytes n.size n.off n.steps n.faults n.setting n.may_refuse
    n.must_refuse c.args.self.now c.fetch_in-answer.new.self c.args.c c.args.k r.regs c.args.at
    c.args.len
    c.fetch_in-answer.result) c.«record».ensures c.fetch_in-answer.ensures.by_answer)
