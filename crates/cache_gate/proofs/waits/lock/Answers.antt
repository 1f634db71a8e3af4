use Rattle.std.proofs.Common.{rules, ap, ◌∙◌, []}
use Rattle.cache_gate.proofs.Walks.{looked, works_first}
use Rattle.cache_gate.proofs.waits.lock.Goals as goal

-- the lock was another's, and the core served its gate
pub loop-preserved : goal.loop-preserved
loop-preserved g c =
    let u = c.args.seat.now.view in
    let a = c.loop.seat.view in
    let v = c.take_lock.new.seat.view in
    let w = c.serve.new.seat.view in (
      search rules,
      works_first [] u.core v.core w.core u.seen v.seen w.seen
          (looked u a v (ap (λ (z : _). z.view.core) c.in_default.ensures.kept) c.loop.invariant.1
          c.in_default.ensures.cause.1.0) c.serve.ensures.works,
      c.serve.ensures.turns ∙ c.loop.invariant.2,
    )
