use Rattle.std.proofs.Common.{◌<◌, ◌∙◌, Option, All, sym, ap, subst}
use Rattle.partition_table.specs.declared.app.App.{App}
use Rattle.partition_table.specs.Layout.{Places}
use Rattle.otadata.specs.Entry.{entry_in}
use Rattle.boot_select.specs.Settled.{sectors}
use Rattle.boot_select.specs.Boots.{entries_in, images_in}
use Rattle.rollback.specs.declared.rewrite.Rewrite.{Rewrite}
use Rattle.image_verify.specs.declared.info.ImageInfo.{ImageInfo}
use Rattle.image_verify.specs.Held.{held}
use Rattle.boot_run.specs.Booted.{IsBoot}
use Rattle.boot_run.proofs.WritesLemmas.{boot_are, boot_two}
use Rattle.boot_run.proofs.StartedLemmas.{booted_of, seen_boot, seen_steps}
use Rattle.boot_run.proofs.previewing.preview.Goals as goal

-- each rewrite is of one of two sectors
pub after-requires : goal.after-requires
after-requires c =
    let es = sectors c.entry_in-e0.result c.entry_in-e1.result in
    let same = c.deref.ensures.0 ∙ c.boot_writes-writes.ensures.exact in
    record {
      two = subst (All (λ (write : Rewrite). write.sector < 2)) (sym same)
          (boot_two es _ (boot_are es));
    }

-- no application has an image
pub returns-in-None-clause-boots : goal.returns-in-None-clause-boots
returns-in-None-clause-boots c =
    let layout = c.args.layout.now in
    let flash = c.args.flash.now in
    let place = ap (λ (l : Places). l.otadata) c.layout.view_is in
    subst (λ (started : Option (App × ImageInfo)). IsBoot layout (images_in held layout flash)
    (entries_in layout flash) (booted_of 0 started)) c.in-None.is
    (seen_boot layout flash c.entry_in-e0.result c.entry_in-e1.result c.after.result.0
    c.after.result.1
    c.deref.result.now c.deref-2.result.now 0 c.first_in.result
    (c.entry_in-e0.ensures.exact ∙ ap (λ o. entry_in flash o 0) place)
    (c.entry_in-e1.ensures.exact ∙ ap (λ o. entry_in flash o 1) place)
    (c.deref.ensures.0 ∙ c.boot_writes-writes.ensures.exact) c.after.ensures.first
    c.after.ensures.second
    (c.deref-2.ensures.0 ∙ c.order.ensures.exact) c.first_in.ensures.first)

-- the first one that has an image
pub returns-in-Some-clause-boots : goal.returns-in-Some-clause-boots
returns-in-Some-clause-boots c =
    let layout = c.args.layout.now in
    let flash = c.args.flash.now in
    let place = ap (λ (l : Places). l.otadata) c.layout.view_is in
    subst (λ (started : Option (App × ImageInfo)). IsBoot layout (images_in held layout flash)
    (entries_in layout flash) (booted_of 0 started)) c.in-Some.is
    (seen_boot layout flash c.entry_in-e0.result c.entry_in-e1.result c.after.result.0
    c.after.result.1
    c.deref.result.now c.deref-2.result.now 0 c.first_in.result
    (c.entry_in-e0.ensures.exact ∙ ap (λ o. entry_in flash o 0) place)
    (c.entry_in-e1.ensures.exact ∙ ap (λ o. entry_in flash o 1) place)
    (c.deref.ensures.0 ∙ c.boot_writes-writes.ensures.exact) c.after.ensures.first
    c.after.ensures.second
    (c.deref-2.ensures.0 ∙ c.order.ensures.exact) c.first_in.ensures.first)

pub returns-in-Some-clause-steps : goal.returns-in-Some-clause-steps
returns-in-Some-clause-steps c =
    let layout = c.args.layout.now in
    let flash = c.args.flash.now in
    let place = ap (λ (l : Places). l.otadata) c.layout.view_is in
    seen_steps layout flash c.entry_in-e0.result c.entry_in-e1.result
    c.boot_writes-writes.result.items c.len.result
    (c.entry_in-e0.ensures.exact ∙ ap (λ o. entry_in flash o 0) place)
    (c.entry_in-e1.ensures.exact ∙ ap (λ o. entry_in flash o 1) place)
    c.boot_writes-writes.ensures.exact c.len.ensures.value
