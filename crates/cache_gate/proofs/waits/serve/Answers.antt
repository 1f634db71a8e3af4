use Rattle.std.proofs.Common.{ap, []}
use Rattle.cache_gate.proofs.Walks.{looked, works_first, works_none}
use Rattle.cache_gate.proofs.waits.serve.Goals as goal

-- it was asked, and passed by
pub returns-then-asked-clause-works : goal.returns-then-asked-clause-works
returns-then-asked-clause-works g c =
    let u = c.args.seat.now.view in
    let v = c.asked.new.seat.view in
    let w = c.pass_by.new.seat.view in
    works_first [] u.core v.core w.core u.seen v.seen w.seen
    (looked u u v (ap (λ (z : _). z.view.core) c.asked.ensures.kept) (works_none u.core u.seen)
    c.asked.ensures.exact.2.0) c.pass_by.ensures.works
