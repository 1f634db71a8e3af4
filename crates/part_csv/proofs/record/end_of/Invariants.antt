use Rattle.std.proofs.Common.{◌≡◌, ◌<◌, ◌^◌, drop}
use Rattle.part_csv.specs.Source.{end_from}
use Rattle.part_csv.proofs.record.end_of.Given as goal

-- the end so far, and the rows behind, give the end of all
abbrev pub invariant-loop-row : goal.invariant-loop-row
invariant-loop-row l = record {
  end : end_from l.end (drop l.row-index l.rows) ≡ end_from 0x9000 l.rows;
  most : l.end < 2 ^ 33;
}
