use Rattle.std.proofs.Common.{ap, ◌∙◌, length, arith, get_or}
use Rattle.image_maker.specs.Placing.{padding_of, placed, text_from}
use Rattle.image_maker.specs.Sizes.{size_after}
use Rattle.image_maker.proofs.JoinedLemmas.{part_at, none_left, long}
use Rattle.image_maker.proofs.PlacingLemmas.{size_step}
use Rattle.image_maker.proofs.place.size_of.Goals as goal

-- one part more
pub loop-i-preserved : goal.loop-i-preserved
loop-i-preserved c =
    let file = c.index-files-i.result in
    let here = part_at c.loop-i.i c.args.lines.now c.args.files.now c.index-lines-i.result file c.requires.each
    c.loop-i-test.true c.index-files-i.is in
    let size = c.len.ensures ∙ long file in
    let inv = c.loop-i.invariant in
    let step = size_step c.loop-i.size c.with_part-size.result _ _ _ here
    (c.with_part-size.ensures.exact
    ∙ ap (λ n. size_after c.loop-i.size.count c.loop-i.size.end (padding_of c.loop-i.size.end (get_or c.args.lines.now c.loop-i.i c.index-lines-i.result).load n) n) size) in
    record {
      count = step.0 ∙ inv.count;
      end = step.1 ∙ inv.end;
      few = omega (arith, inv.few, c.with_part-size.ensures.more);
      short = omega (arith, inv.short, c.with_part-size.ensures.longer);
    }

-- no part is left
pub returns : goal.returns
returns c =
    let none = none_left c.loop-i.i c.args.lines.now c.args.files.now c.requires.each c.loop-i-test.false in
    let inv = c.loop-i.invariant in
    record {
      exact = record {
        count = omega (arith, inv.count, ap (λ ps. length (placed ps c.loop-i.size.end)) none);
        end = omega (arith, inv.end, ap (λ ps. length (text_from ps c.loop-i.size.end)) none);
      };
      short = omega (arith, inv.short, c.requires.few);
    }
