use Rattle.std.proofs.Common.{ap, []}
use Rattle.cache_gate.proofs.Walks.{by_end, by_give, works_first, works_none}
use Rattle.cache_gate.proofs.waits.calm.Goals as goal

-- it let the other core go, unmasked itself, and gave the lock back
pub returns-clause-works : goal.returns-clause-works
returns-clause-works g c =
    let u = c.args.seat.now.view in
    let a = c.«end».new.seat.view in
    let b = c.back.new.seat.view in
    let w = c.give_lock.new.seat.view in
    by_give u b w (ap (λ (z : _). z.view.core) c.give_lock.ensures.exact)
    (works_first [] u.core a.core b.core u.seen a.seen b.seen
    (by_end u u a (ap (λ (z : _). z.view.core) c.«end».ensures.exact) (works_none u.core u.seen)
    c.«end».ensures.event) c.back.ensures.works) c.give_lock.ensures.event
