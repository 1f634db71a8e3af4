use Rattle.std.proofs.Common.{Ok, Err}
use Rattle.rollback.specs.declared.verdict.RejectNo.TheVariants as no
use Rattle.flash_cli.proofs.VerdictLemmas.{reject_ends}
use Rattle.flash_cli.proofs.reject.reject_sure.Goals as goal

-- the rewrite was made
pub returns-in-Ok-clause-exact : goal.returns-in-Ok-clause-exact
returns-in-Ok-clause-exact g c =
    let n = g.D.Nor in
    reject_ends n.may_end n.may_tear n.may_refuse n.must_refuse (n.setting c.args.device.now)
    c.args.layout.now _ _ (n.bytes c.args.device.now) _ (Ok c.in-Ok.told) c.requires.some c.in-Ok.ensures.steps

-- no entry is active
pub returns-in-Err-NoOtaApp-clause-exact : goal.returns-in-Err-NoOtaApp-clause-exact
returns-in-Err-NoOtaApp-clause-exact g c =
    let n = g.D.Nor in
    reject_ends n.may_end n.may_tear n.may_refuse n.must_refuse (n.setting c.args.device.now)
    c.args.layout.now _ _ (n.bytes c.args.device.now) _ (Err no.NoOtaApp) c.requires.some
    (rw c.in-Err-NoOtaApp.field-0-is at c.in-Err-NoOtaApp.ensures.steps)

-- there is nothing else
pub returns-in-Err-NothingElse-clause-exact : goal.returns-in-Err-NothingElse-clause-exact
returns-in-Err-NothingElse-clause-exact g c =
    let n = g.D.Nor in
    reject_ends n.may_end n.may_tear n.may_refuse n.must_refuse (n.setting c.args.device.now)
    c.args.layout.now _ _ (n.bytes c.args.device.now) _ (Err no.NothingElse) c.requires.some
    (rw c.in-Err-NothingElse.field-0-is at c.in-Err-NothingElse.ensures.steps)
