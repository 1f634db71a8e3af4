use Rattle.std.proofs.Common.{ap, sym, ◌∙◌}
use Rattle.image_maker.specs.Refused.{part_fault, parts_fault}
use Rattle.image_maker.proofs.JoinedLemmas.{part_at, none_left, long}
use Rattle.image_maker.proofs.RefusedLemmas.{part_stops, part_passes}
use Rattle.image_maker.proofs.check.parts_fault.Goals as goal

-- this part has a fault
pub returns-in-Some : goal.returns-in-Some
returns-in-Some c =
    let file = c.index-files-i.result in
    let here = part_at c.loop-i.i c.args.lines.now c.args.files.now c.index-lines-i.result file c.requires.each
    c.loop-i-test.true c.index-files-i.is in
    let size = c.len.ensures ∙ long file in
    record {
      exact = part_stops c.loop-i.i _ _ _ here c.in-Some.fault _
          (ap (part_fault c.loop-i.i _) (sym size) ∙ sym c.part_fault.ensures.exact ∙ c.in-Some.is) c.loop-i.invariant;
    }

-- it has none
pub loop-i-preserved : goal.loop-i-preserved
loop-i-preserved c =
    let file = c.index-files-i.result in
    let here = part_at c.loop-i.i c.args.lines.now c.args.files.now c.index-lines-i.result file c.requires.each
    c.loop-i-test.true c.index-files-i.is in
    let size = c.len.ensures ∙ long file in
    part_passes c.loop-i.i _ _ _ here _
    (ap (part_fault c.loop-i.i _) (sym size) ∙ sym c.part_fault.ensures.exact ∙ c.in_default.is) c.loop-i.invariant

-- no part is left
pub returns : goal.returns
returns c =
    record {
      exact = sym (ap (parts_fault c.loop-i.i)
          (none_left c.loop-i.i c.args.lines.now c.args.files.now c.requires.each c.loop-i-test.false))
          ∙ c.loop-i.invariant;
    }
