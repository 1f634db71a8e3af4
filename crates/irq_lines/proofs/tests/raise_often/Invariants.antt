use Rattle.std.proofs.Common.{◌≡◌}
use Rattle.irq_lines.specs.Told.{MadeAtMost}
use Rattle.irq_lines.proofs.tests.raise_often.Given as goal

abbrev pub invariant-loop-i : goal.invariant-loop-i
invariant-loop-i l = (l.seat.table ≡ l.lines) × MadeAtMost l.i l.seat.view
