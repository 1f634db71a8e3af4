use Rattle.std.proofs.Common.{◌+◌, ap, sym, ◌∙◌, arith, drop, get_or}
use Rattle.image_maker.specs.Refused.{meets, first_met, met_by_first}
use Rattle.image_maker.specs.Parts.{all_parts}
use Rattle.image_maker.proofs.JoinedLemmas.{part_at, none_left, long}
use Rattle.image_maker.proofs.RefusedLemmas.{meeting_stops, meeting_passes}
use Rattle.image_maker.proofs.check.first_met.Goals as goal

-- the parts after the first one
pub loop-i-init : goal.loop-i-init
loop-i-init c =
    let lines = c.args.lines.now in
    let files = c.args.files.now in
    let first = c.args.first in
    let file = c.index-files-first.result in
    let here = part_at first lines files c.index-lines-first.result file c.requires.each (omega arith)
    c.index-files-first.is in
    let size = c.len-length.ensures ∙ long file in
    ap (λ n. first_met (get_or lines first c.index-lines-first.result).load n (first + 1) (drop (first + 1) (all_parts lines files))) size
    ∙ sym (ap (met_by_first first) here)

-- this part meets it
pub returns-then-meets : goal.returns-then-meets
returns-then-meets c =
    let file = c.index-files-i.result in
    let here = part_at c.loop-i.i c.args.lines.now c.args.files.now c.index-lines-i.result file c.requires.each
    c.loop-i-test.true c.index-files-i.is in
    let size = c.len.ensures ∙ long file in
    record {
      exact = meeting_stops c.loop-i.i _ _ _ here _ _ _
          (ap (meets _ _ _) (sym size) ∙ sym c.meets.ensures.exact ∙ c.if-meets.true) c.loop-i.invariant;
    }

-- this part doesn't
pub loop-i-preserved : goal.loop-i-preserved
loop-i-preserved c =
    let file = c.index-files-i.result in
    let here = part_at c.loop-i.i c.args.lines.now c.args.files.now c.index-lines-i.result file c.requires.each
    c.loop-i-test.true c.index-files-i.is in
    let size = c.len.ensures ∙ long file in
    meeting_passes c.loop-i.i _ _ _ here _ _ _
    (ap (meets _ _ _) (sym size) ∙ sym c.meets.ensures.exact ∙ c.if-meets.false) c.loop-i.invariant

-- no part is left
pub returns : goal.returns
returns c =
    record {
      exact = sym (ap (first_met _ _ c.loop-i.i)
          (none_left c.loop-i.i c.args.lines.now c.args.files.now c.requires.each c.loop-i-test.false))
          ∙ c.loop-i.invariant;
    }
