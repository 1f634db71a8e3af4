use Rattle.std.proofs.Common.{IfSome, IfOk, subst, sym}
use Rattle.boot_select.specs.Boots.{entries_in, images_in}
use Rattle.image_verify.specs.Held.{held}
use Rattle.boot_run.specs.Booted.{IsBoot}
use Rattle.boot_run.proofs.AboveLemmas.{held_all}
use Rattle.boot_run.proofs.booting.boot.Goals as goal

-- above level 0 all that is held counts
pub returns-clause-boots : goal.returns-clause-boots
returns-clause-boots g c =
    let n = g.D.Nor in
    let old = n.bytes c.args.device.now in
    let layout = c.args.layout.now in
    subst (λ answer. IfOk answer (λ booted. IfSome old (λ flash.
    IsBoot layout (images_in held layout flash) (entries_in layout flash) booted)))
    (sym c.booted.ensures.exact)
    (subst (λ which. IfOk c.boot_on.result (λ booted. IfSome old (λ flash.
    IsBoot layout (images_in which layout flash) (entries_in layout flash) booted))) held_all
    c.boot_on.ensures.boots)
