use Rattle.std.proofs.Common.{◌≡◌, ◌∙◌, [], ap, refl, subst, sym, rules}
use Rattle.crash_images.specs.Cut.{CutDevice}
use Rattle.nor_device.specs.Ram.{Ram}
use Rattle.power_cut.specs.Update.{Opens}
use Rattle.power_cut.proofs.OpensLemmas.{aimed_opens}
use Rattle.power_cut.proofs.tests.unswept.Goals as goal

-- an update of no byte begins by this aim
pub refusals-requires-clause-opens : goal.refusals-requires-clause-opens
refusals-requires-clause-opens c =
    let made : c.new-dev.result.inner.bytes ≡ c.args.flash.now =
    ap (λ (d : CutDevice Ram). d.inner.bytes) c.new-dev.ensures.exact ∙ c.of_bytes.ensures.bytes
    ∙ c.copy_from_slice.ensures.items in
    subst (λ f. Opens c.in-Ok.layout f c.in-Ok-aim.aim []) made
    (aimed_opens c.tables_open_updates.ensures.opens c.in-Ok.layout c.args.flash.now
    c.new-dev.result.inner.bytes c.new-dev.result.inner.bytes c.in-Ok-aim.aim
    (sym c.layout_in.ensures.exact ∙ c.in-Ok.is) made refl (search rules) c.in-Ok-aim.ensures.aims)
