use Rattle.std.proofs.Common.{◌≡◌, ◌+◌, ◌<◌, ◌^◌, length}
use Rattle.cache_gate.specs.Own.{IsInside}
use Rattle.flash_steps.specs.Steps.{write_steps}
use Rattle.flash_ops.specs.Moves.{periods_of, write_moves}
use Rattle.flash_ops.specs.Asked.{CanMakeMoves}
use Rattle.flash_ops.specs.Told.{ToldOf}
use Rattle.flash_ops.proofs.Runs.{Left}
use Rattle.flash_ops.proofs.Counts.{Counting}
use Rattle.flash_ops.specs.Periods.{write_periods}
use Rattle.flash_ops.proofs.PeriodLemmas.{Passed}
use Rattle.flash_ops.proofs.writing.write.Given as goal

-- the moves of the bytes that are left are left of all
abbrev pub invariant-loop-rest : goal.invariant-loop-rest
invariant-loop-rest g l = let d = g.K.Duty in let probe = l.fn.beat.probe in record {
  inside : IsInside l.core.base (l.at + length l.rest);
  small : l.at + length l.rest < 2 ^ 32;
  can : CanMakeMoves d.part d.grants d.moved (write_moves probe l.at l.rest) probe l.core;
  left : Left l.k (write_moves probe l.fn.at l.fn.bytes) (write_moves probe l.at l.rest)
      l.fn.core l.core;
  probe : l.beat.probe ≡ probe;
  pace : l.beat.pace ≡ l.fn.beat.pace;
  ops : Counting (periods_of (write_steps l.fn.at l.fn.bytes))
      (periods_of (write_steps l.at l.rest)) l.fn.beat.ops l.beat.ops;
  passed : Passed (write_periods l.fn.at l.fn.bytes) (write_periods l.at l.rest) l.fn.core l.core;
  told : ToldOf (g.P.Pace.told l.fn.beat.pace.now) l.fn.beat.ops l.beat.ops;
}

abbrev pub decreases-loop-rest : goal.decreases-loop-rest
decreases-loop-rest g l = length l.rest
