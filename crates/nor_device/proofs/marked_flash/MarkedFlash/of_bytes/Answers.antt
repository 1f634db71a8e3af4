use Rattle.std.proofs.Common.{◌+◌, ◌/◌, ◌∙◌, sym, ap}
use Rattle.nor_device.specs.Marks.{no_marks, is_marked, as_read}
use Rattle.nor_device.proofs.CoverLemmas.{covered_none}
use Rattle.nor_device.proofs.MarksLemmas.{get_or-no_marks}
use Rattle.nor_device.proofs.marked_flash.MarkedFlash.of_bytes.Goals as goal

-- without marks what is stored is read
pub returns-clause-bytes : goal.returns-clause-bytes
returns-clause-bytes c =
    ap (λ marks. as_read marks c.args.bytes.items) c.none.ensures.exact
    ∙ sym (covered_none (is_marked no_marks) 0 c.args.bytes.items
    (λ k inside. get_or-no_marks ((0 + k) / 4096)))
