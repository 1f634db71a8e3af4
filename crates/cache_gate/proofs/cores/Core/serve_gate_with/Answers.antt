use Rattle.cache_gate.specs.Own.{held_of}
use Rattle.cache_gate.proofs.Walks.{works_kept}
use Rattle.cache_gate.proofs.States.{runs_on}
use Rattle.cache_gate.proofs.cores.Core.serve_gate_with.Goals as goal

pub invariant_of-self : goal.invariant_of-self
invariant_of-self g c =
    runs_on c.self.inside.words.now (held_of c.self.inside.seat) (held_of c.serve.new.seat)
    c.self.invariant c.serve.ensures.exact (works_kept _ _ _ _ c.serve.ensures.works)
