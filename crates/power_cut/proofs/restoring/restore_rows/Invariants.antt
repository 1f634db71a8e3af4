use Rattle.std.proofs.Common.{drop}
use Rattle.power_cut.proofs.RestoringLemmas.{AgreesBesideRows}
use Rattle.power_cut.proofs.restoring.restore_rows.Given as goal

-- the partitions that are left may differ
abbrev pub invariant-loop-i : goal.invariant-loop-i
invariant-loop-i l = AgreesBesideRows (drop l.i l.rows) l.flash l.bytes
