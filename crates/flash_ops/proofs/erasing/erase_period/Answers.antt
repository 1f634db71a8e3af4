use Rattle.std.proofs.Common.{[], ◌∷◌}
use Rattle.nor_device.specs.declared.step.Step.TheVariants.{Erase}
use Rattle.flash_ops.specs.Moves.{Make}
use Rattle.flash_ops.proofs.Runs.{run_step, period_ran}
use Rattle.flash_ops.proofs.Can.{room_behind}
use Rattle.flash_ops.proofs.PeriodLemmas.{one_step, period_looked, period_of_steps}
use Rattle.flash_ops.proofs.erasing.erase_period.Goals as goal

-- the erase leaves room for the look
pub look_behind-looked-requires-clause-room : goal.look_behind-looked-requires-clause-room
look_behind-looked-requires-clause-room g c =
    let d = g.K.Duty in
    room_behind d.part d.grants d.moved c.args.k (Make (Erase c.args.sector) ∷ [])
    c.args.beat.now.probe c.begin.new.beat.probe c.step-made.result c.args.core
    c.enter-quiet.result c.step-made.new.self c.leave-core.result c.begin.ensures.probe
    c.requires.can c.enter-quiet.ensures.keeps
    (run_step c.args.k (Erase c.args.sector) c.step-made.result c.enter-quiet.result
    c.step-made.new.self c.step-made.ensures.adds) c.leave-core.ensures.keeps

-- the erase, and the look behind it
pub returns-clause-ran : goal.returns-clause-ran
returns-clause-ran g c =
    period_ran c.args.k (Make (Erase c.args.sector) ∷ []) c.args.beat.now.probe
    c.begin.new.beat.probe c.step-made.result c.look_behind-looked.result c.args.core
    c.enter-quiet.result c.step-made.new.self c.leave-core.result c.look_behind-looked.new.core
    c.begin.ensures.probe c.enter-quiet.ensures.keeps
    (run_step c.args.k (Erase c.args.sector) c.step-made.result c.enter-quiet.result
    c.step-made.new.self c.step-made.ensures.adds) c.leave-core.ensures.keeps c.look_behind-looked.ensures.looks

-- in a quiet period of one step
pub returns-clause-period : goal.returns-clause-period
returns-clause-period g c =
    period_looked 1 c.args.k c.begin.new.beat.probe c.step-made.result c.look_behind-looked.result
    c.args.core c.leave-core.result c.look_behind-looked.new.core
    (period_of_steps 1 c.step-made.result c.args.core c.enter-quiet.result c.step-made.new.self
    c.leave-core.result c.enter-quiet.ensures.shows
    (one_step c.step-made.result c.enter-quiet.result c.step-made.new.self
    c.step-made.ensures.shows) c.leave-core.ensures.shows) c.look_behind-looked.ensures.looks
    c.look_behind-looked.ensures.shows
