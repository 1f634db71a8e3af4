use Rattle.std.proofs.Common.{◌≡◌, ◌++◌, drop}
use Rattle.flash_text.specs.WorkerText.{bytes_hex}
use Rattle.flash_text.proofs.worker_text.put_bytes_hex.Given as goal

-- the digits so far, and those of the bytes to come, are all digits
abbrev pub invariant-loop-byte : goal.invariant-loop-byte
invariant-loop-byte l =
    l.out.items ++ bytes_hex (drop l.byte-index l.bytes) ≡ l.initial.out.items ++ bytes_hex l.bytes
