use Rattle.std.proofs.Common.{◌≡◌, ◌+◌, ◌-◌, ◌*◌, drop}
use Rattle.partition_table.specs.Table.{rows_in}
use Rattle.partition_table.proofs.read.partitions.Given as goal

-- the rows so far are partitions
abbrev pub invariant-loop-i : goal.invariant-loop-i
invariant-loop-i l = rows_in (l.most - l.i) (drop (32 * l.i) l.bytes) + l.i ≡ rows_in l.most l.bytes
