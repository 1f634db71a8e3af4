use Rattle.std.proofs.Common.{◌≡◌, ◌-◌, length}
use Rattle.csv.specs.Records.{fields_of}
use Rattle.part_csv.specs.Source.{has_column}
use Rattle.part_csv.proofs.record.has_more.Given as goal

-- the columns behind have one that is not empty where any has
abbrev pub invariant-loop-i : goal.invariant-loop-i
invariant-loop-i l =
    has_column (length (fields_of l.line) - l.i) l.i (fields_of l.line)
    ≡ has_column (length (fields_of l.line) - 6) 6 (fields_of l.line)
