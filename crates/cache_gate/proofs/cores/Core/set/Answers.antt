use Rattle.std.proofs.Common.{subst, []}
use Rattle.cache_gate.specs.Own.{held_of, own_of, HasShown}
use Rattle.cache_gate.proofs.Walks.{works_set, shows_set}
use Rattle.cache_gate.proofs.States.{runs_more}
use Rattle.cache_gate.proofs.cores.Core.set.Goals as goal

pub invariant_of-self : goal.invariant_of-self
invariant_of-self g c =
    runs_more c.self.inside.words.now (held_of c.self.inside.seat) (held_of c.set.new.seat) _
    _
    c.self.invariant c.set.ensures.exact c.self.invariant.unsaved (works_set _ _ _ _ _ c.set.ensures.works)

-- as its seat knows it
pub returns-clause-shows : goal.returns-clause-shows
returns-clause-shows g c =
    subst (λ (o : _). HasShown [] o (own_of (held_of c.set.new.seat))) c.self.view_is
    (shows_set c.args.regs _ _ _ _ c.set.ensures.works)
