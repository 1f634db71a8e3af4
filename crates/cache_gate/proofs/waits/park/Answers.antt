use Rattle.std.proofs.Common.{ap, []}
use Rattle.cache_gate.proofs.Walks.{by_park, works_first, works_none}
use Rattle.cache_gate.proofs.waits.park.Goals as goal

-- it parked, and left
pub returns-in-Ok-clause-works : goal.returns-in-Ok-clause-works
returns-in-Ok-clause-works g c =
    let u = c.args.seat.now.view in
    let v = c.park.new.seat.view in
    let w = c.leave.new.seat.view in
    works_first [] u.core v.core w.core u.seen v.seen w.seen
    (by_park u u v (ap (λ (z : _). z.view.core) c.in-Ok.ensures.ok) (works_none u.core u.seen)
    c.in-Ok.ensures.event) c.leave.ensures.works
