use Rattle.std.proofs.Common.{◌+◌, ◌<◌, ◌^◌, length, None}
use Rattle.cache_gate.specs.Own.{IsInside}
use Rattle.flash_steps.specs.Steps.{write_steps}
use Rattle.flash_ops.specs.Moves.{makes}
use Rattle.flash_ops.specs.Asked.{CanMakeMoves}
use Rattle.flash_ops.proofs.Runs.{Left}
use Rattle.flash_ops.proofs.PeriodLemmas.{Stepping}
use Rattle.flash_ops.proofs.writing.program.Given as goal

-- the programs of the bytes that are left are left of all
abbrev pub invariant-loop-step : goal.invariant-loop-step
invariant-loop-step g l = let d = g.K.Duty in record {
  inside : IsInside l.quiet.base (l.at + length l.rest);
  small : l.at + length l.rest < 2 ^ 32;
  can : CanMakeMoves d.part d.grants d.moved (makes (write_steps l.at l.rest)) None l.quiet;
  left : Left l.k (makes (write_steps l.fn.at l.fn.bytes)) (makes (write_steps l.at l.rest))
      l.fn.quiet l.quiet;
  stepping : Stepping (length (write_steps l.fn.at l.fn.bytes)) (length (write_steps l.at l.rest))
      l.fn.quiet l.quiet;
}

abbrev pub decreases-loop-step : goal.decreases-loop-step
decreases-loop-step g l = length l.rest
