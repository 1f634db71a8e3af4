use Rattle.std.proofs.Common.{subst}
use Rattle.cache_gate.specs.Own.{held_of, own_of, HasStepped}
use Rattle.cache_gate.proofs.States.{quiet_made, quiet_stepped}
use Rattle.cache_gate.proofs.cores.Quiet.step.Goals as goal

pub invariant_of-self : goal.invariant_of-self
invariant_of-self g c =
    quiet_made c.self.inside.words.now (held_of c.self.inside.seat) (held_of c.make.new.seat)
    c.args.k c.args.step.now c.make.result c.self.invariant c.make.ensures

-- as its seat knows it
pub returns-clause-adds : goal.returns-clause-adds
returns-clause-adds g c =
    subst (λ (o : _). HasStepped c.args.k c.args.step.now c.make.result o
    (own_of (held_of c.make.new.seat))) c.self.view_is
    (quiet_stepped (held_of c.self.inside.seat) (held_of c.make.new.seat) c.args.k
    c.args.step.now c.make.result c.self.invariant.masked_is c.make.ensures)
