use Rattle.std.proofs.lemmas.Result.{on_ok_weaker, on_err_weaker}
use Rattle.std.proofs.Common.{rules}
use Rattle.nor_device.proofs.Missed.{on_missed_torn}
use Rattle.crash_images.proofs.Told.{program_torn, program_refused, missed}
use Rattle.crash_images.proofs.tear_step.tear_program.Goals as goal

-- the program with the mask bits set is the torn one
pub returns-clause-torn : goal.returns-clause-torn
returns-clause-torn g c =
    on_ok_weaker c.make_step.result
    (program_torn c.args.at c.args.tear c.args.page.now c.page_with_mask_bits-bytes.result _ _
    c.page_with_mask_bits-bytes.ensures.exact) c.make_step.ensures.made

pub returns-clause-refused : goal.returns-clause-refused
returns-clause-refused g c =
    let n = g.D.Nor in
    on_err_weaker c.make_step.result
    (program_refused c.args.at c.args.tear c.args.page.now c.page_with_mask_bits-bytes.result _ _
    c.page_with_mask_bits-bytes.ensures.exact)
    (on_missed_torn n.may_end n.may_tear n.may_refuse n.must_refuse _ _ _ _ _ _
    c.make_step.result c.make_step.ensures.missed)

pub returns-clause-kept : goal.returns-clause-kept
returns-clause-kept g c = let n = g.D.Nor in record {
  idle = search rules;
  allowed = missed n.may_end n.may_tear n.may_refuse n.must_refuse _ _ _ _ _ _ c.make_step.result
      c.make_step.ensures.missed;
  setting_kept = search rules;
  cause = search rules;
}
