use Rattle.std.proofs.Common.{◌≡◌, ◌*◌, ◌++◌, length, take, drop}
use Rattle.std.specs.List.{AllByRecursion}
use Rattle.partition_table.specs.Row.{IsSized, rows_text}
use Rattle.partition_table.proofs.write.put_rows.Given as goal

-- the rows so far are written, and those that are still to come follow
abbrev pub invariant-loop-i : goal.invariant-loop-i
invariant-loop-i l = record {
  written : take (32 * l.i) l.out ++ rows_text (drop l.i l.rows) ≡ rows_text l.rows;
  long : length l.out ≡ length l.initial.out;
  sized : AllByRecursion IsSized (drop l.i l.rows) → AllByRecursion IsSized l.rows;
}
