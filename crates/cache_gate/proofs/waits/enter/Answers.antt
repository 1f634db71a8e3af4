use Rattle.std.proofs.Common.{[], ◌∷◌}
use Rattle.duo_machine.specs.declared.events.Kind.TheVariants as kinds
use Rattle.cache_gate.proofs.Walks.{works_last}
use Rattle.cache_gate.proofs.waits.enter.Goals as goal

-- it took the lock, masked itself, and saw the other core out of the way
pub returns-clause-works : goal.returns-clause-works
returns-clause-works g c =
    let u = c.args.seat.now.view in
    let a = c.lock.new.seat.view in
    let b = c.save.new.seat.view in
    let w = c.hush.new.seat.view in
    works_last (kinds.Take ∷ []) u.core b.core w.core u.seen b.seen w.seen
    (works_last (kinds.Take ∷ []) u.core a.core b.core u.seen a.seen b.seen c.lock.ensures.works
    c.save.ensures.works) c.hush.ensures.works
