use Rattle.std.proofs.Common.{◌<◌, ◌≤◌, length}
use Rattle.boot_select.proofs.tests.layout.Given as goal

-- there is a slot, and no more than sixteen
abbrev pub invariant-loop-slot : goal.invariant-loop-slot
invariant-loop-slot l = record { some : 0 < length l.slots.items; most : length l.slots.items ≤ 16 }
