use Rattle.std.proofs.Common.{◌≡◌, ◌≤◌, length}
use Rattle.part_csv.specs.Trim.{kept}
use Rattle.part_csv.proofs.trim.kept.Given as goal

-- the blanks so far are at the end
abbrev pub invariant-loop-end : goal.invariant-loop-end
invariant-loop-end l = record {
  kept : kept l.end l.text ≡ kept (length l.text) l.text;
  within : l.end ≤ length l.text;
}

abbrev pub decreases-loop-end : goal.decreases-loop-end
decreases-loop-end l = l.end
