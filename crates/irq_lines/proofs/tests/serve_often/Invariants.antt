use Rattle.std.proofs.Common.{◌≡◌}
use Rattle.irq_lines.proofs.tests.serve_often.Given as goal

abbrev pub invariant-loop : goal.invariant-loop
invariant-loop l = l.seat.table ≡ l.lines
