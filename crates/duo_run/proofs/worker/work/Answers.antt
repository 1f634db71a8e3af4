use Rattle.std.proofs.Common.{arith, length}
use Rattle.duo_run.proofs.WorkLemmas.{acted_keeps, at_can, at_end, at_first, at_next, at_stop, dropped}
use Rattle.duo_run.proofs.PacedLemmas.{told_act, told_all, told_no_act}
use Rattle.duo_run.proofs.worker.work.Goals as goal

-- at first none was begun
pub loop-i-init : goal.loop-i-init
loop-i-init g c =
    let k = g.K.Duty in
    record {
      at = at_first k.part k.grants k.moved c.args.table.now c.args.script.now c.args.core
          c.requires.can;
      told = told_no_act (g.P.Pace.told c.args.pace.now);
    }

-- the next action can be done
pub act-next-requires : goal.act-next-requires
act-next-requires g c =
    let k = g.K.Duty in
    record {
      can = at_can k.part k.grants k.moved c.args.table.now c.args.script.now c.loop-i.i
          c.action-action.result c.args.core c.loop-i.core c.action-action.ensures.exact
          c.action-action.ensures.bounds c.loop-i.invariant.at;
    }

-- the device ended it
pub returns-in-Err-clause-worked : goal.returns-in-Err-clause-worked
returns-in-Err-clause-worked g c =
    let k = g.K.Duty in
    at_stop k.part k.grants k.moved c.args.table.now c.args.script.now c.loop-i.i
    c.action-action.result c.in-Err.no c.args.core c.loop-i.core c.act-next.result.0
    c.action-action.ensures.exact c.loop-i.invariant.at (rw c.in-Err.is at c.act-next.ensures)

-- it was done, and the core served its gate
pub loop-i-preserved : goal.loop-i-preserved
loop-i-preserved g c =
    let k = g.K.Duty in
    record {
      at = at_next k.part k.grants k.moved c.args.table.now c.args.script.now c.loop-i.i
          c.action-action.result c.args.core c.loop-i.core c.serve_gate.new.self
          c.action-action.ensures.exact c.action-action.ensures.bounds c.loop-i.invariant.at
          (acted_keeps c.args.table.now _ c.action-action.result _ c.loop-i.core
          c.act-next.result.0 c.serve_gate.new.self (rw c.in_default.is at c.act-next.ensures)
          c.serve_gate.ensures.keeps);
      told = told_act (g.P.Pace.told c.args.pace.now) c.loop-i.i c.loop-i.invariant.told
          c.at.ensures.told c.at-in-loop-i.ensures.told;
    }

-- none is left
pub returns-clause-worked : goal.returns-clause-worked
returns-clause-worked g c =
    let k = g.K.Duty in
    at_end k.part k.grants k.moved c.args.table.now c.args.script.now c.loop-i.i c.args.core
    c.loop-i.core (dropped c.args.script.now c.loop-i.i (omega arith)) c.loop-i.invariant.at

-- and each was told
pub returns-clause-told : goal.returns-clause-told
returns-clause-told g c =
    told_all (g.P.Pace.told c.args.pace.now) c.loop-i.i (length c.args.script.now) (omega arith)
    c.loop-i.invariant.told
