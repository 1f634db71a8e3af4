use Rattle.std.proofs.Common.{◌≡◌, ◌+◌, drop}
use Rattle.power_cut.specs.Whole.{total_steps}
use Rattle.power_cut.proofs.sweeping.count.Given as goal

-- the steps so far and those of the legs that are left are all
abbrev pub invariant-loop-i : goal.invariant-loop-i
invariant-loop-i l = l.steps + total_steps (drop l.i l.legs) ≡ total_steps l.legs
