use Rattle.std.proofs.Common.{◌≡◌, drop}
use Rattle.std.specs.List.{list_any}
use Rattle.part_csv.specs.Words.{is_strange}
use Rattle.part_csv.proofs.words.has_strange.Given as goal

-- the bytes behind have such a byte where any has
abbrev pub invariant-loop-i : goal.invariant-loop-i
invariant-loop-i l = list_any is_strange (drop l.i l.text) ≡ list_any is_strange l.text
