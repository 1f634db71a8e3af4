use Rattle.std.proofs.Common.{rules, ap, []}
use Rattle.cache_gate.proofs.Walks.{looked, by_ask, works_first}
use Rattle.cache_gate.proofs.waits.hush.Goals as goal

-- it could not hold the other core, asked it, and saw it parked
pub returns-in-Ok-ask-clause-works : goal.returns-in-Ok-ask-clause-works
returns-in-Ok-ask-clause-works g c =
    let u = c.args.seat.now.view in
    let a = c.loop.seat.view in
    let b = c.hold.new.seat.view in
    let v = c.ask.new.seat.view in
    let w = c.look.new.seat.view in
    works_first [] u.core v.core w.core u.seen v.seen w.seen
    (by_ask u b v (ap (λ (z : _). z.view.core) c.in-Ok-ask.ensures.ok)
    (looked u a b (ap (λ (z : _). z.view.core) c.in_default.ensures.kept) c.loop.invariant.1
    c.in_default.ensures.cause.1.0) c.in-Ok-ask.ensures.event) c.look.ensures.works

-- both words were others
pub loop-preserved : goal.loop-preserved
loop-preserved g c =
    let u = c.args.seat.now.view in
    let a = c.loop.seat.view in
    let b = c.hold.new.seat.view in
    let v = c.ask.new.seat.view in (
      search rules,
      looked u b v (ap (λ (z : _). z.view.core) c.in_default-ask.ensures.kept)
          (looked u a b (ap (λ (z : _). z.view.core) c.in_default.ensures.kept) c.loop.invariant.1
          c.in_default.ensures.cause.1.0) c.in_default-ask.ensures.cause.1.0,
    )
