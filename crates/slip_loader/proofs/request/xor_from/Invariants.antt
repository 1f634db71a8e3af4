use Rattle.std.proofs.Common.{◌≡◌, drop}
use Rattle.slip_loader.specs.Plans.{xor_from}
use Rattle.slip_loader.proofs.request.xor_from.Given as goal

-- the bytes that are left lead to the whole sum
abbrev pub invariant-loop-byte : goal.invariant-loop-byte
invariant-loop-byte l = xor_from l.all (drop l.byte-index l.bytes) ≡ xor_from l.sum l.bytes
