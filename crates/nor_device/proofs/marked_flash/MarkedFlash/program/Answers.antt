use Rattle.std.proofs.Common.{◌≡◌, ◌/◌, ◌∙◌, false, length, get_or, ap, arith}
use Rattle.nor_device.specs.declared.step.Step.TheVariants.{Program}
use Rattle.nor_device.specs.Flash.{applied}
use Rattle.nor_device.specs.Marks.{as_read}
use Rattle.nor_device.proofs.FlashLaws.{length_applied}
use Rattle.nor_device.proofs.MarksLemmas.{unmarked}
use Rattle.nor_device.proofs.ReadLemmas.{length-read, overwritten, program_read}
use Rattle.nor_device.proofs.marked_flash.MarkedFlash.program.Goals as goal

-- as many bytes are read as are stored
pub program-requires : goal.program-requires
program-requires c =
    let long = length-read c.self.inside _ c.self.view_is in
    let same = ap length c.settle_all.ensures.bytes in
    record {
      inside = omega (arith, c.requires.inside, same, long, ap length c.deref_mut.ensures.value);
    }

-- no sector of the range is marked any more
pub returns-clause-bytes : goal.returns-clause-bytes
returns-clause-bytes c =
    let flash = c.self.inside in
    let stored = flash.stored.items in
    let step = Program c.args.at c.args.data.now in
    let made : c.program.new.bytes ≡ applied stored step =
    c.program.ensures.exact ∙ ap (λ bytes. applied bytes step) c.deref_mut.ensures.value in
    let same : length c.program.new.bytes ≡ length stored =
    ap length made ∙ length_applied stored step in
    let marks = ap (λ m. m.marks) c.self.view_is ∙ c.settle_all.ensures.marks in
    ap (as_read flash.marks)
    (overwritten stored c.program.new.bytes flash.stored.len flash.stored.ok.0 same ∙ made)
    ∙ program_read flash.marks stored c.args.data.now c.args.at (λ i from to inside.
    ap (λ m. get_or m (i / 4096) false) marks
    ∙ unmarked _ _ c.args.self.now.marks (i / 4096) (grind arith) (grind arith))
    ∙ ap (λ m. applied m.bytes step) c.self.view_is
    ∙ ap (λ bytes. applied bytes step) c.settle_all.ensures.bytes

-- the flash stays as long
pub returns-clause-size : goal.returns-clause-size
returns-clause-size c =
    ap length (returns-clause-bytes c)
    ∙ length_applied c.args.self.now.bytes (Program c.args.at c.args.data.now)
