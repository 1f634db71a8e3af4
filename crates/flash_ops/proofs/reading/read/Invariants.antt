use Rattle.std.proofs.Common.{◌-◌, ◌≤◌, ℕ, length, take}
use Rattle.cache_gate.specs.Own.{Keeps}
use Rattle.flash_ops.specs.Moves.{read_moves}
use Rattle.flash_ops.specs.Shown.{AreBytesOf}
use Rattle.flash_ops.proofs.Runs.{Left}
use Rattle.flash_ops.specs.Periods.{read_periods}
use Rattle.flash_ops.proofs.PeriodLemmas.{Passed}
use Rattle.flash_ops.proofs.Bytes.{StandsBy}
use Rattle.flash_ops.proofs.reading.read.Given as goal

-- so many bytes were read, and are those of a bus
abbrev pub invariant-loop-done : goal.invariant-loop-done
invariant-loop-done g l = let n = g.D.Nor in let d = g.K.Duty in record {
  within : l.done ≤ length l.fn.out;
  kept : Keeps l.fn.core l.core;
  left : (k : ℕ) → Left k (read_moves (length l.fn.out)) (read_moves (length l.fn.out - l.done))
      l.fn.core l.core;
  passed : Passed (read_periods (length l.fn.out)) (read_periods (length l.fn.out - l.done))
      l.fn.core l.core;
  bytes : AreBytesOf (StandsBy n.bytes n.off n.steps n.faults n.setting n.may_end n.may_tear
      n.may_refuse n.must_refuse d.part d.grants d.after d.good) (λ h. n.bytes h.dev)
      l.fn.core.base l.fn.core.core l.fn.core.share l.at (take l.done l.out);
}

abbrev pub decreases-loop-done : goal.decreases-loop-done
decreases-loop-done g l = length l.out - l.done
