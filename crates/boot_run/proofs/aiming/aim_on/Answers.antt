use Rattle.std.proofs.Common.{◌∙◌, IfSome, subst}
use Rattle.boot_select.specs.Boots.{images_in}
use Rattle.boot_run.specs.Verified.{IsFirst}
use Rattle.boot_run.proofs.AboveLemmas.{held_all}
use Rattle.boot_run.proofs.AimLemmas.{told_aims}
use Rattle.boot_run.proofs.aiming.aim_on.Goals as goal

-- what is aimed at beside the application that was started
pub returns-clause-aims : goal.returns-clause-aims
returns-clause-aims g c =
    let n = g.D.Nor in
    told_aims c.args.layout.now c.in_ok-first.first c.in_ok-first.second c.deref.result.now
    c.args.length
    (n.bytes c.args.device.now) (n.bytes c.read_entries.new.device) c.in_ok-started.started
    c.aim_by.result
    c.in_ok-first.ensures.first c.in_ok-first.ensures.second c.order.ensures.start
    (c.deref.ensures.0 ∙ c.order.ensures.exact) c.read_entries.ensures.same.bytes_same
    (subst (λ holds. IfSome (n.bytes c.read_entries.new.device) (λ flash.
    IsFirst (images_in holds c.args.layout.now flash) c.deref.result.now c.in_ok-started.started))
    held_all c.in_ok-started.ensures.first) c.aim_by.ensures.ok c.aim_by.ensures.err
