use Rattle.cache_gate.specs.Own.{held_of}
use Rattle.cache_gate.proofs.Walks.{works_kept}
use Rattle.cache_gate.proofs.States.{masks}
use Rattle.cache_gate.proofs.cores.Core.rest.Goals as goal

pub invariant_of-result : goal.invariant_of-result
invariant_of-result g c =
    masks c.self.inside.words.now (held_of c.self.inside.seat) (held_of c.retire.new.seat) _
    c.self.invariant c.retire.ensures.exact (works_kept _ _ _ _ c.retire.ensures.works)
