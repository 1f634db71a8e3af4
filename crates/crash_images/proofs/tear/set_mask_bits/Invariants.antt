use Rattle.std.proofs.Common.{◌≡◌, ◌+◌, ◌++◌, take, drop}
use Rattle.crash_images.specs.Tear.{with_mask_bits}
use Rattle.crash_images.proofs.tear.set_mask_bits.Given as goal

abbrev pub invariant-loop-i : goal.invariant-loop-i
invariant-loop-i l =
    with_mask_bits l.tear l.first l.initial.bytes ≡ take l.i l.bytes
    ++ with_mask_bits l.tear (l.first + l.i) (drop l.i l.bytes)
