use Rattle.std.proofs.Common.{◌≢◌, sym, ◌∙◌, length, arith}
use Rattle.image_maker.specs.Parts.{all_parts}
use Rattle.image_maker.proofs.JoinedLemmas.{length-all_parts}
use Rattle.image_maker.proofs.RefusedLemmas.{no_parts, faulty_part, faulty_pair, by_size}
use Rattle.image_maker.proofs.image.check.Goals as goal

-- there is no part
pub returns-then-lines-eq0-clause-some : goal.returns-then-lines-eq0-clause-some
returns-then-lines-eq0-clause-some c =
    no_parts c.args.hash _ (length-all_parts c.args.lines.now c.args.files.now c.requires.each ∙ c.if-lines-eq0.true)

-- a part has a fault
pub returns-in-Some-clause-some : goal.returns-in-Some-clause-some
returns-in-Some-clause-some c =
    let long = length-all_parts c.args.lines.now c.args.files.now c.requires.each in
    let some : length (all_parts c.args.lines.now c.args.files.now) ≢ 0 = omega (arith, long, c.if-lines-eq0.false) in
    faulty_part c.args.hash _ some c.in-Some.no (sym c.parts_fault.ensures.exact ∙ c.in-Some.is)

-- two parts meet
pub returns-in-Some-overlap_fault-clause-some : goal.returns-in-Some-overlap_fault-clause-some
returns-in-Some-overlap_fault-clause-some c =
    let long = length-all_parts c.args.lines.now c.args.files.now c.requires.each in
    let some : length (all_parts c.args.lines.now c.args.files.now) ≢ 0 = omega (arith, long, c.if-lines-eq0.false) in
    faulty_pair c.args.hash _ some c.in-Some-overlap_fault.no (sym c.parts_fault.ensures.exact ∙ c.in_default.is)
    (sym c.overlap_fault.ensures.exact ∙ c.in-Some-overlap_fault.is)

-- the size is not one of an image
pub returns-in-Some-size_fault-clause-some : goal.returns-in-Some-size_fault-clause-some
returns-in-Some-size_fault-clause-some c =
    let long = length-all_parts c.args.lines.now c.args.files.now c.requires.each in
    let some : length (all_parts c.args.lines.now c.args.files.now) ≢ 0 = omega (arith, long, c.if-lines-eq0.false) in
    by_size c.args.hash _ some _ _ _ (sym c.parts_fault.ensures.exact ∙ c.in_default.is)
    (sym c.overlap_fault.ensures.exact ∙ c.in_default-overlap_fault.is) c.size_of-size.ensures.exact.count
    c.size_of-size.ensures.exact.end (sym c.size_fault.ensures.exact ∙ c.in-Some-size_fault.is)

-- nothing is wrong
pub returns-clause-none : goal.returns-clause-none
returns-clause-none c =
    let long = length-all_parts c.args.lines.now c.args.files.now c.requires.each in
    let some : length (all_parts c.args.lines.now c.args.files.now) ≢ 0 = omega (arith, long, c.if-lines-eq0.false) in
    by_size c.args.hash _ some _ _ _ (sym c.parts_fault.ensures.exact ∙ c.in_default.is)
    (sym c.overlap_fault.ensures.exact ∙ c.in_default-overlap_fault.is) c.size_of-size.ensures.exact.count
    c.size_of-size.ensures.exact.end (sym c.size_fault.ensures.exact ∙ c.in_default-size_fault.is)
