use Rattle.std.proofs.Common.{◌≡◌, ℕ, ◌<◌, subst}
use Rattle.bus_hub.specs.Hub.{Stands}
use Rattle.cache_gate.proofs.Taken.{by_base, in_either_order}
use Rattle.cache_gate.proofs.turns.known.Goals as goal

small : {m n : ℕ} → m ≡ n → m < 2 → n < 2
small same below = subst (λ (k : ℕ). k < 2) same below

-- each by the base, if there is one
pub returns-clause-room : goal.returns-clause-room
returns-clause-room g c =
    let v = c.args.seat.now.view in
    let n = g.D.Nor in
    let k = g.K.Duty in
    by_base (Stands n.bytes n.off n.steps n.faults n.setting n.may_end n.may_tear n.may_refuse
    n.must_refuse k.part k.grants k.after k.good) c.args.bus.now v.base v.core v.share v.other_share _
    (λ b s n m. c.known.ensures.room b v.core v.share v.other_share n m (small c.core-core.ensures.exact c.core-core.ensures.within) s)
    c.requires.stands_by

pub returns-clause-part : goal.returns-clause-part
returns-clause-part g c =
    let v = c.args.seat.now.view in
    let n = g.D.Nor in
    let k = g.K.Duty in
    by_base (Stands n.bytes n.off n.steps n.faults n.setting n.may_end n.may_tear n.may_refuse
    n.must_refuse k.part k.grants k.after k.good) c.args.bus.now v.base v.core v.share v.other_share _
    (λ b s. c.known.ensures.part b v.core v.share v.other_share (small c.core-core.ensures.exact c.core-core.ensures.within) s)
    c.requires.stands_by

pub returns-clause-step : goal.returns-clause-step
returns-clause-step g c =
    let v = c.args.seat.now.view in
    let n = g.D.Nor in
    let k = g.K.Duty in
    by_base (Stands n.bytes n.off n.steps n.faults n.setting n.may_end n.may_tear n.may_refuse
    n.must_refuse k.part k.grants k.after k.good) c.args.bus.now v.base v.core v.share v.other_share _
    (λ b s. c.known.ensures.step b v.core v.share v.other_share (small c.core-core.ensures.exact c.core-core.ensures.within) s)
    c.requires.stands_by

pub returns-clause-range : goal.returns-clause-range
returns-clause-range g c =
    let v = c.args.seat.now.view in
    let n = g.D.Nor in
    let k = g.K.Duty in
    by_base (Stands n.bytes n.off n.steps n.faults n.setting n.may_end n.may_tear n.may_refuse
    n.must_refuse k.part k.grants k.after k.good) c.args.bus.now v.base v.core v.share v.other_share _
    (λ b s at len. in_either_order (Stands n.bytes n.off n.steps n.faults n.setting n.may_end
    n.may_tear n.may_refuse n.must_refuse k.part k.grants k.after k.good) c.args.bus.now b v.core
    v.share v.other_share _
    (λ left right stood. c.fixed.ensures.range b left right at len stood) s)
    c.requires.stands_by
