use Rattle.std.proofs.Common.{sym, subst, OnErr, IfErr}
use Rattle.nor_device.specs.Nor.{IsLeftTorn, end_by}
use Rattle.crash_images.specs.Cut.{CutDevice, CutMayTear, CutMayEnd, running_by}
use Rattle.crash_images.specs.declared.cut.Health.{Health}
use Rattle.crash_images.proofs.Told.{poll_refused, poll_ended}
use Rattle.crash_images.proofs.cut.CutNorNor.poll.Goals as goal

-- the step that was due is left as tearing it leaves it
pub returns-in-Due-clause-torn : goal.returns-in-Due-clause-torn
returns-in-Due-clause-torn g c =
    let n = g.D.Nor in
    let P : CutDevice _ → Type 0 =
    λ d. IsLeftTorn (CutMayTear n.may_end n.may_refuse
    (record { cut = d.cut; tear = d.tear; fail = d.fail; inner = n.setting d.inner }) d.steps)
    (running_by d.health (n.running d.inner)) (n.bytes d.inner)
    (n.bytes c.tear_step-torn.new.inner) in
    let i = c.self.inside in
    let H : Health → Type 0 =
    λ h. IsLeftTorn (CutMayTear n.may_end n.may_refuse
    (record { cut = i.cut; tear = i.tear; fail = i.fail; inner = n.setting i.inner }) i.steps)
    (running_by h (n.running i.inner)) (n.bytes i.inner) (n.bytes c.tear_step-torn.new.inner) in
    subst P c.self.view_is (subst H (sym c.in-Due.is) c.tear_step-torn.ensures.left)

-- a refusal inside is handed on, with the step left torn
pub returns-in-Sound-clause-torn : goal.returns-in-Sound-clause-torn
returns-in-Sound-clause-torn g c =
    let n = g.D.Nor in
    let i = c.self.inside in
    let P : CutDevice _ → Type 0 =
    λ d. OnErr c.poll.result
    (IsLeftTorn (CutMayTear n.may_end n.may_refuse
    (record { cut = d.cut; tear = d.tear; fail = d.fail; inner = n.setting d.inner }) d.steps)
    (running_by d.health (n.running d.inner)) (n.bytes d.inner) (n.bytes c.poll.new.self)) in
    let H : Health → Type 0 =
    λ h. OnErr c.poll.result
    (IsLeftTorn (CutMayTear n.may_end n.may_refuse
    (record { cut = i.cut; tear = i.tear; fail = i.fail; inner = n.setting i.inner }) i.steps)
    (running_by h (n.running i.inner)) (n.bytes i.inner) (n.bytes c.poll.new.self)) in
    subst P c.self.view_is
    (subst H (sym c.in-Sound.is)
    (poll_refused n.may_end n.may_refuse n.may_tear (n.setting i.inner) (n.steps i.inner) i.tear
    (n.running i.inner) (n.bytes i.inner)
    (n.bytes c.poll.new.self) c.poll.result c.poll.ensures.torn c.poll.ensures.ended))

-- as the setting inside allows
pub returns-in-Sound-clause-ended : goal.returns-in-Sound-clause-ended
returns-in-Sound-clause-ended g c =
    let n = g.D.Nor in
    let i = c.self.inside in
    let P : CutDevice _ → Type 0 =
    λ d. IfErr c.poll.result
    (λ why. CutMayEnd n.may_end n.may_refuse
    (record { cut = d.cut; tear = d.tear; fail = d.fail; inner = n.setting d.inner }) d.steps
    (end_by why)) in
    subst P c.self.view_is
    (poll_ended n.may_end n.may_refuse
    (record { cut = i.cut; tear = i.tear; fail = i.fail; inner = n.setting i.inner })
    (n.steps i.inner) i.steps c.poll.result c.poll.ensures.ended)
