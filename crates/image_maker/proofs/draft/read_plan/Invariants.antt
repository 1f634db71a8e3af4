use Rattle.std.proofs.Common.{◌≡◌, ◌≤◌, ◌+◌, vec_len, length}
use Rattle.image_maker.specs.PlanText.{after_lines, drafted, nothing}
use Rattle.pipe_ends.specs.Words.{lines_of}
use Rattle.image_maker.proofs.draft.read_plan.Given as goal

-- the lines to come lead from the draft so far to the whole one
abbrev pub invariant-loop-line : goal.invariant-loop-line
invariant-loop-line l = record {
  lines : after_lines (l.number + 1) (drafted l.draft) (lines_of l.left) ≡ after_lines 1 nothing (lines_of l.text);
  count : l.number + length (lines_of l.left) ≡ length (lines_of l.text);
  number : l.number + length l.left ≤ length l.text;
  few : vec_len l.draft.lines ≤ 64;
}

abbrev pub decreases-loop-line : goal.decreases-loop-line
decreases-loop-line l = length l.left
