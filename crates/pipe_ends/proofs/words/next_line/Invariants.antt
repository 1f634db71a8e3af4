use Rattle.std.proofs.Common.{◌≡◌, take, drop}
use Rattle.pipe_ends.specs.Words.{lines_from, lines_of}
use Rattle.pipe_ends.proofs.words.next_line.Given as goal

-- no byte so far ended the line
abbrev pub invariant-loop-i : goal.invariant-loop-i
invariant-loop-i l = lines_from (take l.i l.text) (drop l.i l.text) ≡ lines_of l.text
