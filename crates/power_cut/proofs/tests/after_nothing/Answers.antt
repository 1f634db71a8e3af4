use Rattle.std.proofs.Common.{◌∙◌, ap, sym, rules}
use Rattle.crash_images.specs.Cut.{CutDevice}
use Rattle.nor_device.specs.Ram.{Ram}
use Rattle.power_cut.proofs.OpensLemmas.{aimed_opens}
use Rattle.power_cut.proofs.tests.after_nothing.Goals as goal

pub update_of_nothing-requires-clause-opens : goal.update_of_nothing-requires-clause-opens
update_of_nothing-requires-clause-opens c =
    aimed_opens c.tables_open_updates.ensures.opens c.in-Ok.layout c.deref.result.now
    c.new-dev.result.inner.bytes c.aim.new.device.inner.bytes c.in-Ok-aim.aim
    (sym c.layout_in.ensures.exact ∙ c.in-Ok.is)
    (ap (λ (d : CutDevice Ram). d.inner.bytes) c.new-dev.ensures.exact ∙ c.of_bytes.ensures.bytes
    ∙ sym c.deref.ensures.value)
    c.aim.ensures.same.bytes_same (search rules) c.in-Ok-aim.ensures.aims
