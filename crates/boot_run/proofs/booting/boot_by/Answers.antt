use Rattle.std.proofs.Common.{Option, IfSome, ◌<◌, ◌∙◌, List, All, length, sym, ap, subst, arith}
use Rattle.partition_table.specs.declared.app.App.{App}
use Rattle.partition_table.specs.Layout.{Places}
use Rattle.boot_select.specs.Settled.{sectors}
use Rattle.boot_select.specs.Boots.{images_in}
use Rattle.image_verify.specs.declared.info.ImageInfo.{ImageInfo}
use Rattle.rollback.specs.declared.rewrite.Rewrite.{Rewrite}
use Rattle.rollback.specs.Boot.{boot_writes}
use Rattle.boot_run.specs.Above.{held_above}
use Rattle.boot_run.specs.Booted.{IsBoot}
use Rattle.boot_run.proofs.WritesLemmas.{boot_are, boot_two}
use Rattle.boot_run.proofs.StartedLemmas.{booted_of, boot_by, by_short, told_boot, length-rewrites}
use Rattle.boot_run.proofs.booting.boot_by.Goals as goal

-- each rewrite is of one of two sectors
pub write_all-requires-clause-two : goal.write_all-requires-clause-two
write_all-requires-clause-two g c =
    let es = sectors c.args.e0 c.args.e1 in
    let same = c.deref.ensures.0 ∙ c.boot_writes-writes.ensures.exact in
    subst (All (λ (write : Rewrite). write.sector < 2)) (sym same) (boot_two es _ (boot_are es))

pub started_after-requires-clause-two : goal.started_after-requires-clause-two
started_after-requires-clause-two g c =
    let es = sectors c.args.e0 c.args.e1 in
    let same = c.deref-2.ensures.0 ∙ c.boot_writes-writes.ensures.exact in
    subst (All (λ (write : Rewrite). write.sector < 2)) (sym same) (boot_two es _ (boot_are es))

-- no application has an image
pub returns-in-None-clause-boots : goal.returns-in-None-clause-boots
returns-in-None-clause-boots g c =
    let n = g.D.Nor in
    let es = sectors c.args.e0 c.args.e1 in
    let exact = c.boot_writes-writes.ensures.exact in
    let boots = told_boot (held_above c.args.level) c.args.layout.now _ _ es c.deref.result.now c.deref-2.result.now 0
    (n.bytes c.args.device.now) (n.bytes c.write_all.new.device) c.in_ok-started_after.field-0
    c.requires.placed (c.deref.ensures.0 ∙ exact) (c.deref-2.ensures.0 ∙ exact)
    (by_short boot_writes c.args.e0 c.args.e1 boot_by c.requires.first c.requires.second)
    (ap (λ (l : Places). l.otadata) c.layout.view_is) c.in_ok-write_all.ensures.made.bytes
    c.in_ok-started_after.ensures.first in
    subst (λ (started : Option (App × ImageInfo)). IfSome (n.bytes c.args.device.now) (λ flash.
    IsBoot c.args.layout.now (images_in (held_above c.args.level) c.args.layout.now flash) es (booted_of 0 started)))
    c.in-None.is boots

-- the first one that has an image
pub returns-in-Some-clause-boots : goal.returns-in-Some-clause-boots
returns-in-Some-clause-boots g c =
    let n = g.D.Nor in
    let es = sectors c.args.e0 c.args.e1 in
    let exact = c.boot_writes-writes.ensures.exact in
    let boots = told_boot (held_above c.args.level) c.args.layout.now _ _ es c.deref.result.now c.deref-2.result.now 0
    (n.bytes c.args.device.now) (n.bytes c.write_all.new.device) c.in_ok-started_after.field-0
    c.requires.placed (c.deref.ensures.0 ∙ exact) (c.deref-2.ensures.0 ∙ exact)
    (by_short boot_writes c.args.e0 c.args.e1 boot_by c.requires.first c.requires.second)
    (ap (λ (l : Places). l.otadata) c.layout.view_is) c.in_ok-write_all.ensures.made.bytes
    c.in_ok-started_after.ensures.first in
    subst (λ (started : Option (App × ImageInfo)). IfSome (n.bytes c.args.device.now) (λ flash.
    IsBoot c.args.layout.now (images_in (held_above c.args.level) c.args.layout.now flash) es (booted_of 0 started)))
    c.in-Some.is boots

pub returns-in-Some-clause-steps : goal.returns-in-Some-clause-steps
returns-in-Some-clause-steps g c =
    let es = sectors c.args.e0 c.args.e1 in
    omega (
      arith,
      c.len.ensures.value,
      ap (λ (l : List Rewrite). length l) c.boot_writes-writes.ensures.exact,
      length-rewrites c.args.layout.now.otadata (boot_writes es),
    )
