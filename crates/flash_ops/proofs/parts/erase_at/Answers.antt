use Rattle.std.proofs.Common.{List, None, subst, sym}
use Rattle.flash_steps.specs.Steps.{erase_steps}
use Rattle.flash_ops.specs.Moves.{Move, erase_moves}
use Rattle.flash_ops.specs.Asked.{CanMakeMoves}
use Rattle.flash_ops.proofs.Pieces.{blind_erase}
use Rattle.flash_ops.proofs.Changes.{changed_by}
use Rattle.flash_ops.specs.Periods.{erase_periods}
use Rattle.flash_ops.proofs.PeriodLemmas.{periods_unbarred}
use Rattle.flash_ops.proofs.parts.erase_at.Goals as goal

-- without a look, the moves are the steps
pub erase-core-requires-clause-can : goal.erase-core-requires-clause-can
erase-core-requires-clause-can g c = let d = g.K.Duty in
    subst (λ (m : List Move). CanMakeMoves d.part d.grants d.moved m None c.args.core)
    (sym (blind_erase c.args.at c.args.len)) c.requires.can.can

pub returns-clause-ran : goal.returns-clause-ran
returns-clause-ran g c =
    changed_by c.args.k (erase_steps c.args.at c.args.len) c.args.core c.erase-core.result.0
    (erase_moves None c.args.at c.args.len) c.erase-core.result.1 c.changed.result
    (blind_erase c.args.at c.args.len) c.changed.ensures.exact c.erase-core.ensures.ran

pub returns-clause-periods : goal.returns-clause-periods
returns-clause-periods g c =
    periods_unbarred (erase_periods c.args.at c.args.len) c.erase-core.result.1 c.changed.result
    c.args.core c.erase-core.result.0 c.changed.ensures.exact c.erase-core.ensures.periods
