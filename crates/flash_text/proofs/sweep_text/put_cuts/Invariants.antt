use Rattle.std.proofs.Common.{◌≡◌, ◌++◌, suc, drop}
use Rattle.flash_text.specs.SweepText.{cut_lines}
use Rattle.flash_text.proofs.sweep_text.put_cuts.Given as goal

-- the lines so far, and those of the steps to come, are all lines
abbrev pub invariant-loop-i : goal.invariant-loop-i
invariant-loop-i l =
    l.out.items ++ cut_lines (suc l.i) (drop l.i l.after)
    ≡ l.initial.out.items ++ cut_lines 1 l.after
