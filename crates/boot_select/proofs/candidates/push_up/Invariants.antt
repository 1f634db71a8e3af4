use Rattle.std.proofs.Common.{◌≡◌, ◌+◌, ◌-◌, ◌++◌, length}
use Rattle.boot_select.specs.Candidates.{up}
use Rattle.boot_select.proofs.candidates.push_up.Given as goal

-- the applications so far, and those that are still to come, are all
abbrev pub invariant-loop-slot : goal.invariant-loop-slot
invariant-loop-slot l = record {
  items : l.apps.items ++ up l.slot (l.end - l.slot) ≡ l.fn.apps.items ++ up l.start (l.end - l.start);
  count : length l.apps.items + (l.end - l.slot) ≡ length l.fn.apps.items + (l.end - l.start);
}
