use Rattle.std.proofs.Common.{rules}
use Rattle.std.proofs.lemmas.Result.{err_from_is_err_and}
use Rattle.boot_run.proofs.RewritingLemmas.{made_next, missed_next}
use Rattle.boot_run.proofs.write.write_all.Goals as goal

-- one rewrite more is made
pub loop-write-preserved : goal.loop-write-preserved
loop-write-preserved g c =
    let n = g.D.Nor in
    let b = c.loop-write.invariant in
    record {
      idle = search rules;
      on = search rules;
      made = made_next n.may_end n.may_tear n.may_refuse n.must_refuse _ _ c.args.otadata
          c.args.writes.now c.loop-write.write-index _ _ _ _ _ _ _ c.loop-write-test.true
          b.setting.setting_same b.made c.in_ok-write_entry.ensures.made;
      setting = search rules;
      faults_same = search rules;
    }

-- a rewrite was missed
pub returns-in_err-write_entry-clause-missed : goal.returns-in_err-write_entry-clause-missed
returns-in_err-write_entry-clause-missed g c =
    let n = g.D.Nor in
    let b = c.loop-write.invariant in
    let p = err_from_is_err_and c.from_residual.result c.from_residual.ensures.1 in
    rw (p.1, p.2) (missed_next n.may_end n.may_tear n.may_refuse n.must_refuse _ _ c.args.otadata
    c.args.writes.now c.loop-write.write-index _ _ _ _ _ _ _ _ c.loop-write-test.true
    b.setting.setting_same b.made c.in_err-write_entry.ensures.missed)
