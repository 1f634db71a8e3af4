use Rattle.std.proofs.Common.{◌+◌, [], ◌∷◌, length}
use Rattle.flash_ops.specs.Moves.{Ask}
use Rattle.flash_ops.proofs.Runs.{run_after, run_ask, run_before}
use Rattle.flash_ops.proofs.Bytes.{read_on}
use Rattle.flash_ops.proofs.PeriodLemmas.{no_step, period_of_steps}
use Rattle.flash_ops.proofs.reading.read_period.Goals as goal

-- one read in a quiet period
pub returns-clause-ran : goal.returns-clause-ran
returns-clause-ran g c = λ k.
    run_after k (Ask ∷ []) c.read-asked.result c.args.core c.enter-quiet.result c.leave.result
    c.enter-quiet.ensures.keeps
    (run_before k (Ask ∷ []) c.read-asked.result c.enter-quiet.result c.read-asked.new.self
    c.leave.result
    (run_ask k c.read-asked.result c.enter-quiet.result c.read-asked.new.self
    c.read-asked.ensures.adds) c.leave.ensures.keeps)

pub returns-clause-bytes : goal.returns-clause-bytes
returns-clause-bytes g c = let n = g.D.Nor in let d = g.K.Duty in
    read_on n.bytes n.off n.steps n.faults n.setting n.may_end n.may_tear n.may_refuse
    n.must_refuse d.part d.grants d.after d.good c.read-asked.result c.args.core
    c.enter-quiet.result c.args.at (c.args.at + length c.args.out.now) c.read-asked.new.out
    c.requires.inside c.enter-quiet.ensures.keeps c.read-asked.ensures.bytes

-- in a quiet period of no step
pub returns-clause-period : goal.returns-clause-period
returns-clause-period g c =
    period_of_steps 0 c.read-asked.result c.args.core c.enter-quiet.result c.read-asked.new.self
    c.leave.result c.enter-quiet.ensures.shows
    (no_step c.read-asked.result c.enter-quiet.result c.read-asked.new.self
    c.read-asked.ensures.shows) c.leave.ensures.shows
