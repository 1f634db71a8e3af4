use Rattle.std.proofs.Common.{◌≡◌, refl}
use Rattle.rollback.specs.Verdict.{confirm_of}
use Rattle.rollback.proofs.VerdictLemmas.{confirm-err, confirm-none}
use Rattle.rollback.proofs.verdict.confirm_write.Goals as goal

pub returns : goal.returns
unfolding confirm_of
returns c =
    let e0 = c.args.e0.now in
    let e1 = c.args.e1.now in
    let is : c.confirm_by.result ≡ confirm_of e0 e1 = rw (c.confirm_by.ensures.exact, c.active.ensures.exact) refl in
    record { exact = is; no_app = λ why. rw is (confirm-err e0 e1 why); none = rw is (confirm-none e0 e1) }
