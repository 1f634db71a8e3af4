use Rattle.cache_gate.specs.Own.{held_of}
use Rattle.cache_gate.proofs.Walks.{works_taken}
use Rattle.cache_gate.proofs.States.{masks}
use Rattle.cache_gate.proofs.cores.Core.enter_with.Goals as goal

pub invariant_of-result : goal.invariant_of-result
invariant_of-result g c =
    masks c.self.inside.words.now (held_of c.self.inside.seat) (held_of c.enter.new.seat) _
    c.self.invariant c.enter.ensures.exact (works_taken _ _ _ _ c.enter.ensures.works)
