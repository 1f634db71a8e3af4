use Rattle.std.proofs.Common.{◌≡◌, drop}
use Rattle.part_csv.specs.Trim.{trim_front}
use Rattle.part_csv.proofs.trim.trim_front.Given as goal

-- the blanks so far are at the start
abbrev pub invariant-loop-i : goal.invariant-loop-i
invariant-loop-i l = trim_front (drop l.i l.text) ≡ trim_front l.text
