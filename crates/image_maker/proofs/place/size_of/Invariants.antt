use Rattle.std.proofs.Common.{◌≡◌, ◌≤◌, ◌+◌, ◌*◌, ◌^◌, drop, length}
use Rattle.image_maker.specs.Placing.{placed, text_from}
use Rattle.image_maker.specs.Parts.{all_parts}
use Rattle.image_maker.proofs.place.size_of.Given as goal

-- the size so far, and what is left, are the whole size
abbrev pub invariant-loop-i : goal.invariant-loop-i
invariant-loop-i l = record {
  count : l.size.count + length (placed (drop l.i (all_parts l.lines l.files)) l.size.end)
      ≡ length (placed (all_parts l.lines l.files) 24);
  end : l.size.end + length (text_from (drop l.i (all_parts l.lines l.files)) l.size.end)
      ≡ 24 + length (text_from (all_parts l.lines l.files) 24);
  few : l.size.count ≤ 2 * l.i;
  short : l.size.end ≤ 24 + l.i * 2 ^ 65;
}
