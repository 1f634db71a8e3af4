use Rattle.std.proofs.Common.{rules, ap, []}
use Rattle.cache_gate.proofs.Walks.{looked, works_first}
use Rattle.cache_gate.proofs.waits.settle.Goals as goal

-- it was asked, parked, and left
pub loop-preserved : goal.loop-preserved
loop-preserved g c =
    let u = c.args.seat.now.view in
    let a = c.loop.seat.view in
    let v = c.rest.new.seat.view in
    let w = c.park.new.seat.view in (
      search rules,
      works_first [] u.core v.core w.core u.seen v.seen w.seen
          (looked u a v (ap (λ (z : _). z.view.core) c.in_default.ensures.kept) c.loop.invariant.1
          c.in_default.ensures.cause.1.0) c.park.ensures.works,
    )
