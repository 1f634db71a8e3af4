use Rattle.crash_images.proofs.Told.{left_torn}
use Rattle.crash_images.proofs.tear_step.tear_step.Goals as goal

-- by the number, or where the device refused a call
pub returns-clause-left : goal.returns-clause-left
returns-clause-left g c =
    let n = g.D.Nor in
    let r = c.tear_by_kind in
    left_torn n.may_end n.may_refuse
    (n.setting c.args.inner.now) c.args.tear c.args.step.now _ _ r.result r.ensures.torn
    r.ensures.refused r.ensures.kept.allowed
