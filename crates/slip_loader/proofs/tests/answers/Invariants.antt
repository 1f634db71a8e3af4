use Rattle.std.proofs.Common.{◌≡◌, ◌≤◌, ◌-◌, length, None}
use Rattle.slip_loader.proofs.tests.answers.Given as goal

-- the bytes in front were taken, and the device is idle
abbrev pub invariant-loop-at : goal.invariant-loop-at
invariant-loop-at g l = let n = g.D.Nor in record {
  idle : n.running l.device ≡ None;
  size : n.size l.device ≡ l.loader.state.size;
  inside : l.at ≤ length l.stream;
}

abbrev pub decreases-loop-at : goal.decreases-loop-at
decreases-loop-at g l = length l.stream - l.at
