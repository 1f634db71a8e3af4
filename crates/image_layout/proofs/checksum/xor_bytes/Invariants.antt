use Rattle.std.proofs.Common.{◌≡◌, drop}
use Rattle.image_layout.specs.Whole.{xor_all}
use Rattle.image_layout.proofs.checksum.xor_bytes.Given as goal

-- the bytes that are left lead to the whole sum
abbrev pub invariant-loop-byte : goal.invariant-loop-byte
invariant-loop-byte l = xor_all l.all (drop l.byte-index l.bytes) ≡ xor_all l.sum l.bytes
