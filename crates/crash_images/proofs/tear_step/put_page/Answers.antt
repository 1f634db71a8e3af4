use Rattle.std.proofs.Common.{rules}
use Rattle.nor_device.proofs.Missed.{on_missed_torn}
use Rattle.crash_images.proofs.Told.{missed}
use Rattle.crash_images.proofs.tear_step.put_page.Goals as goal

-- a page that was missed is torn
pub returns-clause-torn : goal.returns-clause-torn
returns-clause-torn g c =
    let n = g.D.Nor in
    let torn = on_missed_torn n.may_end n.may_tear n.may_refuse n.must_refuse _ _ _ _ _ _
    c.make_step.result c.make_step.ensures.missed in rw (← c.in-Some.ensures.some) torn

pub returns-clause-kept : goal.returns-clause-kept
returns-clause-kept g c = let n = g.D.Nor in record {
  idle = search rules;
  allowed = missed n.may_end n.may_tear n.may_refuse n.must_refuse _ _ _ _ _ _ c.make_step.result
      c.make_step.ensures.missed;
  setting_kept = search rules;
  cause = search rules;
}
