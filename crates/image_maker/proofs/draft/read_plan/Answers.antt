use Rattle.std.proofs.Common.{◌+◌, length}
use Rattle.std.proofs.lemmas.Result.{err_from_is_err_and}
use Rattle.image_maker.specs.PlanText.{drafted, plan_of_text}
use Rattle.pipe_ends.specs.Words.{lines_of}
use Rattle.image_maker.proofs.ReadLemmas.{line_stops, plan_at_end}
use Rattle.image_maker.proofs.draft.read_plan.Goals as goal

-- a line that is refused
pub returns-in_err-add : goal.returns-in_err-add
unfolding plan_of_text
returns-in_err-add c =
    let inv = c.loop-line.invariant in
    let p = err_from_is_err_and c.from_residual.result c.from_residual.ensures.1 in
    record {
      exact = rw (p.1, p.2)
          (line_stops (c.loop-line.number + 1) (drafted c.loop-line.draft) _ _ _ _ c.in-Some.ensures.exact inv.lines
          (length (lines_of c.args.text.now)) c.in_err-add.field-0.0 c.in_err-add.ensures.err);
    }

-- no line is left
pub returns : goal.returns
returns c =
    let inv = c.loop-line.invariant in
    record {
      exact = plan_at_end c.args.text.now c.loop-line.left.now c.loop-line.number (drafted c.loop-line.draft) c.finish.result
          c.in_default.ensures.exact inv.lines inv.count c.finish.ensures.exact;
    }
