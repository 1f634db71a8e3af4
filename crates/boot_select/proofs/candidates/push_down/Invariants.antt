use Rattle.std.proofs.Common.{◌≡◌, ◌+◌, ◌++◌, length}
use Rattle.boot_select.specs.Candidates.{down}
use Rattle.boot_select.proofs.candidates.push_down.Given as goal

-- the applications so far, and those that are still to come, are all
abbrev pub invariant-loop-slot : goal.invariant-loop-slot
invariant-loop-slot l = record {
  items : l.apps.items ++ down l.slot ≡ l.fn.apps.items ++ down l.end;
  count : length l.apps.items + l.slot ≡ length l.fn.apps.items + l.end;
}
