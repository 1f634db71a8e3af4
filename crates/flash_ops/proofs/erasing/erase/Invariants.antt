use Rattle.std.proofs.Common.{◌≡◌, ◌-◌}
use Rattle.std.specs.Prelude.{replicate}
use Rattle.flash_ops.specs.Moves.{erase_moves}
use Rattle.flash_ops.specs.Asked.{CanMakeMoves}
use Rattle.flash_ops.specs.Told.{ToldOf}
use Rattle.flash_ops.proofs.Runs.{Left}
use Rattle.flash_ops.proofs.Counts.{Counting}
use Rattle.flash_ops.proofs.Pieces.{sectors_left}
use Rattle.flash_ops.specs.Periods.{erase_periods}
use Rattle.flash_ops.proofs.PeriodLemmas.{Passed}
use Rattle.flash_ops.proofs.erasing.erase.Given as goal

-- the sectors from this one on are left of all
abbrev pub invariant-loop-i : goal.invariant-loop-i
invariant-loop-i g l = let d = g.K.Duty in let probe = l.fn.beat.probe in record {
  base : l.core.base ≡ l.fn.core.base;
  can : CanMakeMoves d.part d.grants d.moved (sectors_left probe l.first l.count l.i) probe l.core;
  left : Left l.k (erase_moves probe l.fn.at l.fn.len) (sectors_left probe l.first l.count l.i)
      l.fn.core l.core;
  probe : l.beat.probe ≡ probe;
  pace : l.beat.pace ≡ l.fn.beat.pace;
  ops : Counting l.count (l.count - l.i) l.fn.beat.ops l.beat.ops;
  passed : Passed (erase_periods l.fn.at l.fn.len) (replicate (l.count - l.i) 1) l.fn.core l.core;
  told : ToldOf (g.P.Pace.told l.fn.beat.pace.now) l.fn.beat.ops l.beat.ops;
}
