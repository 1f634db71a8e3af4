use Rattle.std.proofs.Common.{ap, subst, ◌∙◌}
use Rattle.cache_gate.specs.Own.{RanBoth}
use Rattle.cache_gate.proofs.States.{ran_both}
use Rattle.cache_gate.proofs.gates.Gates.close.Goals as goal

-- the run that both seats have seen
pub returns-clause-run : goal.returns-clause-run
returns-clause-run g c =
    subst (λ (z : _ × _). RanBoth z.0 z.1) (λ k. (c.first.view_is k, c.second.view_is k))
    (ran_both c.first.inside.seat c.second.inside.seat c.first.invariant.true_to
    c.second.invariant.true_to (ap (λ (o : _). o.core) c.first.view_is ∙ c.requires.first.1)
    (ap (λ (o : _). o.core) c.second.view_is ∙ c.requires.second.1) c.close-bus.ensures.run)
