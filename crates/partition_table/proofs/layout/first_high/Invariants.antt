use Rattle.std.proofs.Common.{◌≡◌, drop}
use Rattle.partition_table.specs.First.{first_place}
use Rattle.partition_table.specs.Layout.{is_high}
use Rattle.partition_table.proofs.layout.first_high.Given as goal

-- the rows behind have the first high application of all
abbrev pub invariant-loop-i : goal.invariant-loop-i
invariant-loop-i l = first_place is_high l.i (drop l.i l.rows)
    ≡ first_place is_high 0 l.rows
