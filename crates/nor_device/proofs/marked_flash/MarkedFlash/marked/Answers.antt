use Rattle.std.proofs.Common.{subst}
use Rattle.nor_device.specs.Marks.{AreErased}
use Rattle.nor_device.proofs.ReadLemmas.{read_erased}
use Rattle.nor_device.proofs.marked_flash.MarkedFlash.marked.Goals as goal

-- what is marked reads as erased
pub returns-clause-erased : goal.returns-clause-erased
returns-clause-erased c =
    subst (λ m. AreErased m.marks m.bytes) c.self.view_is
    (read_erased c.self.inside.marks c.self.inside.stored.items)
