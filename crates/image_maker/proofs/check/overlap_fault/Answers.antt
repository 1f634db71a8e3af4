use Rattle.std.proofs.Common.{ap, sym, ◌∙◌}
use Rattle.image_maker.specs.Refused.{overlap_fault}
use Rattle.image_maker.proofs.JoinedLemmas.{begins, none_left}
use Rattle.image_maker.proofs.RefusedLemmas.{overlap_stops, overlap_passes}
use Rattle.image_maker.proofs.check.overlap_fault.Goals as goal

-- a part after this one meets it
pub returns-in-Some : goal.returns-in-Some
returns-in-Some c =
    let here = begins c.loop-i.i c.args.lines.now c.args.files.now c.requires.each c.loop-i-test.true in
    record {
      exact = overlap_stops c.loop-i.i here.0 _ _ here.1 c.in-Some.b _ (sym c.in-Some.is ∙ c.first_met.ensures.exact)
          c.loop-i.invariant;
    }

-- none does
pub loop-i-preserved : goal.loop-i-preserved
loop-i-preserved c =
    let here = begins c.loop-i.i c.args.lines.now c.args.files.now c.requires.each c.loop-i-test.true in
    overlap_passes c.loop-i.i here.0 _ _ here.1 _ (sym c.first_met.ensures.exact ∙ c.in_default.is) c.loop-i.invariant

-- no part is left
pub returns : goal.returns
returns c =
    record {
      exact = sym (ap (overlap_fault c.loop-i.i)
          (none_left c.loop-i.i c.args.lines.now c.args.files.now c.requires.each c.loop-i-test.false))
          ∙ c.loop-i.invariant;
    }
