use Rattle.std.proofs.Common.{◌≤◌, ◌+◌, length, arith, rules}
use Rattle.std.proofs.lemmas.Result.{err_from_is_err_and}
use Rattle.crash_images.proofs.Told.{page_put, page_refused}
use Rattle.crash_images.proofs.tear_step.put_back.Goals as goal

-- what was put back and the page that was refused lie in the range
pub returns-in_err-put_page-clause-refused : goal.returns-in_err-put_page-clause-refused
returns-in_err-put_page-clause-refused g c =
    let p = err_from_is_err_and c.from_residual.result c.from_residual.ensures.1 in
    let room : c.loop-done.done + 256 ≤ length c.args.part.now = omega arith in
    rw p.1 (page_refused c.args.at c.loop-done.done c.args.part.now _ _ _ room
    c.loop-done.invariant.put c.in_err-put_page.ensures.torn)

-- one page more is put back
pub loop-done-preserved : goal.loop-done-preserved
loop-done-preserved g c =
    let room : c.loop-done.done + 256 ≤ length c.args.part.now = omega arith in
    record {
      whole = omega arith;
      inside = room;
      on = search rules;
      idle = search rules;
      put = page_put c.args.at c.loop-done.done c.args.part.now _ _ _ room c.loop-done.invariant.put
          c.in_ok-put_page.ensures.put;
      setting = search rules;
      faults_same = search rules;
    }
