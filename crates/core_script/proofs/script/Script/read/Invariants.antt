use Rattle.std.proofs.Common.{◌≡◌, ◌≤◌, ◌+◌, [], length}
use Rattle.core_script.specs.ScriptText.{after_lines}
use Rattle.pipe_ends.specs.Words.{lines_of}
use Rattle.core_script.proofs.script.Script.read.Given as goal

-- the lines to come lead from the actions so far to those of the text
abbrev pub invariant-loop-line : goal.invariant-loop-line
invariant-loop-line l = record {
  lines : after_lines (l.number + 1) l.script (lines_of l.left) ≡ after_lines 1 [] (lines_of l.text);
  number : l.number + length l.left ≤ length l.text;
}

abbrev pub decreases-loop-line : goal.decreases-loop-line
decreases-loop-line l = length l.left
