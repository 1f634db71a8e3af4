use Rattle.std.proofs.Common.{List, None, subst, sym}
use Rattle.flash_steps.specs.Steps.{write_steps}
use Rattle.flash_ops.specs.Moves.{Move, write_moves}
use Rattle.flash_ops.specs.Asked.{CanMakeMoves}
use Rattle.flash_ops.proofs.Pieces.{blind_write}
use Rattle.flash_ops.proofs.Changes.{changed_by}
use Rattle.flash_ops.specs.Periods.{write_periods}
use Rattle.flash_ops.proofs.PeriodLemmas.{periods_unbarred}
use Rattle.flash_ops.proofs.parts.write_at.Goals as goal

-- without a look, the moves are the steps
pub write-core-requires-clause-can : goal.write-core-requires-clause-can
write-core-requires-clause-can g c = let d = g.K.Duty in
    subst (λ (m : List Move). CanMakeMoves d.part d.grants d.moved m None c.args.core)
    (sym (blind_write c.args.at c.args.bytes.now)) c.requires.can

pub returns-clause-ran : goal.returns-clause-ran
returns-clause-ran g c =
    changed_by c.args.k (write_steps c.args.at c.args.bytes.now) c.args.core
    c.write-core.result.0 (write_moves None c.args.at c.args.bytes.now) c.write-core.result.1
    c.changed.result (blind_write c.args.at c.args.bytes.now) c.changed.ensures.exact
    c.write-core.ensures.ran

pub returns-clause-periods : goal.returns-clause-periods
returns-clause-periods g c =
    periods_unbarred (write_periods c.args.at c.args.bytes.now) c.write-core.result.1 c.changed.result
    c.args.core c.write-core.result.0 c.changed.ensures.exact c.write-core.ensures.periods
