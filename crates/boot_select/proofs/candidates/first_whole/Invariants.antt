use Rattle.std.proofs.Common.{◌≡◌, drop}
use Rattle.std.specs.List.{find}
use Rattle.boot_select.specs.Candidates.{is_whole}
use Rattle.boot_select.proofs.candidates.first_whole.Given as goal

-- the applications that are left have the first whole one of all
abbrev pub invariant-loop-i : goal.invariant-loop-i
invariant-loop-i l = find (is_whole l.ok) (drop l.i l.apps) ≡ find (is_whole l.ok) l.apps
