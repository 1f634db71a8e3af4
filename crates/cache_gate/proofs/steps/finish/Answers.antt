use Rattle.std.proofs.Common.{[], ◌∷◌}
use Rattle.duo_machine.specs.declared.events.Kind.TheVariants as kinds
use Rattle.cache_gate.specs.Own.{held_of}
use Rattle.cache_gate.proofs.Walks.{works_first}
use Rattle.cache_gate.proofs.States.{busy_on}
use Rattle.cache_gate.proofs.steps.finish.Goals as goal

-- the step still runs
pub loop-preserved : goal.loop-preserved
loop-preserved g c =
    let u = c.args.seat.now.view in
    let v = c.loop.seat.view in
    let w = c.poll.new.seat.view in (
      busy_on (held_of c.args.seat.now) (held_of c.loop.seat) (held_of c.poll.new.seat) c.args.k
          c.loop.invariant.0 c.requires.turn c.requires.stepping
          (rw c.in-Ok-Busy.field-0-is at c.in-Ok-Busy.ensures.exact),
      works_first [] u.core v.core w.core u.seen v.seen w.seen c.loop.invariant.1
          (rw c.in-Ok-Busy.field-0-is at c.in-Ok-Busy.ensures.works),
    )

-- it has ended
pub returns-in-Ok-Ready-clause-works : goal.returns-in-Ok-Ready-clause-works
returns-in-Ok-Ready-clause-works g c =
    let u = c.args.seat.now.view in
    let v = c.loop.seat.view in
    let w = c.poll.new.seat.view in
    works_first (kinds.Done ∷ []) u.core v.core w.core u.seen v.seen w.seen c.loop.invariant.1
    (rw c.in-Ok-Ready.field-0-is at c.in-Ok-Ready.ensures.works)

pub returns-in-Err-clause-works : goal.returns-in-Err-clause-works
returns-in-Err-clause-works g c =
    let u = c.args.seat.now.view in
    let v = c.loop.seat.view in
    let w = c.poll.new.seat.view in
    works_first (kinds.Done ∷ []) u.core v.core w.core u.seen v.seen w.seen c.loop.invariant.1
    c.in-Err.ensures.works
