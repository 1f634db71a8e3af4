use Rattle.std.proofs.Common.{◌≡◌, length, take}
use Rattle.partition_table.proofs.table.copy_rows.Given as goal

-- the rows so far
abbrev pub invariant-loop-row : goal.invariant-loop-row
invariant-loop-row l = record {
  copied : l.copy.items ≡ take l.row-index l.rows;
  count : length l.copy.items ≡ l.row-index;
}
