use Rattle.cache_gate.specs.Own.{held_of}
use Rattle.cache_gate.proofs.Walks.{works_given}
use Rattle.cache_gate.proofs.States.{wakes}
use Rattle.cache_gate.proofs.cores.Quiet.leave.Goals as goal

pub invariant_of-result : goal.invariant_of-result
invariant_of-result g c =
    wakes c.self.inside.words.now (held_of c.self.inside.seat) (held_of c.calm.new.seat) _
    c.self.invariant c.calm.ensures.exact (works_given _ _ _ _ c.calm.ensures.works)
