use Rattle.cache_gate.specs.Own.{held_of}
use Rattle.cache_gate.proofs.Walks.{works_kept}
use Rattle.cache_gate.proofs.States.{runs_more}
use Rattle.cache_gate.proofs.cores.Core.unmap.Goals as goal

pub invariant_of-self : goal.invariant_of-self
invariant_of-self g c =
    runs_more c.self.inside.words.now (held_of c.self.inside.seat) (held_of c.unmap.new.seat) _
    _
    c.self.invariant c.unmap.ensures.exact c.self.invariant.unsaved (works_kept _ _ _ _ c.unmap.ensures.works)
