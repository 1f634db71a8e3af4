use Rattle.std.proofs.Common.{◌≡◌, ◌<◌, ◌++◌, drop, length}
use Rattle.image_layout.specs.Whole.{xor_all}
use Rattle.image_maker.specs.Placing.{data_from, text_from}
use Rattle.image_maker.specs.Parts.{all_parts}
use Rattle.image_maker.proofs.image.append_parts.Given as goal

-- the image so far, and the parts that are left, are the whole image; and so the checksum
abbrev pub invariant-loop-i : goal.invariant-loop-i
invariant-loop-i l = record {
  bytes : l.image.items ++ text_from (drop l.i (all_parts l.lines l.files)) (length l.image.items)
      ≡ l.fn.image.items ++ text_from (all_parts l.lines l.files) (length l.fn.image.items);
  sum : xor_all l.sum (data_from (drop l.i (all_parts l.lines l.files)) (length l.image.items))
      ≡ xor_all 0xEF (data_from (all_parts l.lines l.files) (length l.fn.image.items));
  byte : l.sum < 256;
}
