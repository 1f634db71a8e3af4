use Rattle.std.proofs.Common.{◌≡◌, ◌≤◌, ◌+◌, ◌*◌, ◌∷◌, length, take}
use Rattle.std.specs.List.{flat_map}
use Rattle.slip_loader.specs.Answers.{escaped}
use Rattle.slip_loader.proofs.answer.framed.Given as goal

-- the bytes in front stand there
abbrev pub invariant-loop-byte : goal.invariant-loop-byte
invariant-loop-byte l = record {
  most : length l.out.items ≤ 1 + 2 * l.byte-index;
  items : l.out.items ≡ 0xC0 ∷ flat_map escaped (take l.byte-index l.bytes);
}
