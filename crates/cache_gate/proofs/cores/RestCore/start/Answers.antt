use Rattle.cache_gate.specs.Own.{held_of}
use Rattle.cache_gate.proofs.Walks.{works_kept}
use Rattle.cache_gate.proofs.States.{wakes}
use Rattle.cache_gate.proofs.cores.RestCore.start.Goals as goal

pub invariant_of-result : goal.invariant_of-result
invariant_of-result g c =
    wakes c.self.inside.words.now (held_of c.self.inside.seat) (held_of c.wake.new.seat) _
    c.self.invariant c.wake.ensures.exact (works_kept _ _ _ _ c.wake.ensures.works)
