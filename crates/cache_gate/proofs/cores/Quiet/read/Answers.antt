use Rattle.std.proofs.Common.{subst, []}
use Rattle.std.specs.Prelude.{OnOk, IfSome}
use Rattle.bus_hub.specs.Hub.{Stands}
use Rattle.cache_gate.specs.Own.{held_of, own_of, HasShown, IsPartOf}
use Rattle.cache_gate.proofs.Walks.{shows_asked}
use Rattle.cache_gate.proofs.States.{stays_quiet}
use Rattle.cache_gate.proofs.cores.Quiet.read.Goals as goal

pub invariant_of-self : goal.invariant_of-self
invariant_of-self g c =
    stays_quiet c.self.inside.words.now (held_of c.self.inside.seat) (held_of c.read.new.seat) _
    c.self.invariant (record { is = c.read.ensures.exact; works = c.read.ensures.works })

-- as its seat knows it
pub returns-clause-bytes : goal.returns-clause-bytes
returns-clause-bytes g c =
    let n = g.D.Nor in
    let k = g.K.Duty in
    subst (λ (o : _). OnOk c.read.result (IfSome o.base (λ b. IsPartOf (Stands n.bytes n.off n.steps
    n.faults n.setting n.may_end n.may_tear n.may_refuse n.must_refuse k.part k.grants k.after
    k.good) (λ h. n.bytes h.dev) b o.core o.share c.args.at c.read.new.out))) c.self.view_is
    c.read.ensures.bytes

pub returns-clause-shows : goal.returns-clause-shows
returns-clause-shows g c =
    subst (λ (o : _). HasShown [] o (own_of (held_of c.read.new.seat))) c.self.view_is
    (shows_asked c.read.result _ _ _ _ c.read.ensures.works)
