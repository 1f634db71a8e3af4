use Rattle.std.proofs.Common.{◌≡◌, refl}
use Rattle.boot_select.specs.Candidates.{is_whole}
use Rattle.rollback.specs.Verdict.{reject_of}
use Rattle.rollback.proofs.VerdictLemmas.{reject-err, reject-nothing}
use Rattle.rollback.proofs.verdict.reject_write.Goals as goal

pub returns : goal.returns
unfolding reject_of
returns c =
    let layout = c.args.layout.now in
    let whole = is_whole c.args.ok.now in
    let e0 = c.args.e0.now in
    let e1 = c.args.e1.now in
    let is : c.reject_by.result ≡ reject_of layout whole e0 e1 = rw (c.reject_by.ensures.exact, c.active.ensures.exact) refl in
    record {
      exact = is;
      no_app = rw is (reject-err layout whole e0 e1);
      nothing_else = rw is (reject-nothing layout whole e0 e1);
    }
