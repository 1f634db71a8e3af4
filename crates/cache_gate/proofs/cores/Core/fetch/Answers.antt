use Rattle.std.proofs.Common.{subst, []}
use Rattle.cache_gate.specs.Own.{held_of, own_of, HasFetched, HasShown}
use Rattle.cache_gate.proofs.Walks.{shows_fetched}
use Rattle.cache_gate.proofs.States.{runs_read, fetched_as}
use Rattle.cache_gate.proofs.cores.Core.fetch.Goals as goal

pub invariant_of-self : goal.invariant_of-self
invariant_of-self g c =
    runs_read c.self.inside.words.now (held_of c.self.inside.seat) (held_of c.fetch.new.seat)
    c.args.k c.args.at c.args.len c.fetch.result
    c.self.invariant c.fetch.ensures.exact c.fetch.ensures.works

-- as its seat knows it
pub returns-clause-adds : goal.returns-clause-adds
returns-clause-adds g c =
    subst (λ (o : _). HasFetched c.args.k c.args.at c.args.len c.fetch.result o
    (own_of (held_of c.fetch.new.seat))) c.self.view_is
    (fetched_as (held_of c.self.inside.seat) (held_of c.fetch.new.seat) c.args.k c.args.at
    c.args.len c.fetch.result c.self.invariant.unsaved c.fetch.ensures.exact
    c.fetch.ensures.works)

pub returns-clause-shows : goal.returns-clause-shows
returns-clause-shows g c =
    subst (λ (o : _). HasShown [] o (own_of (held_of c.fetch.new.seat))) c.self.view_is
    (shows_fetched c.args.at c.fetch.result _ _ _ _ c.fetch.ensures.works)
