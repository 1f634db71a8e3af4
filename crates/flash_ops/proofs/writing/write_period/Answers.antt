use Rattle.std.proofs.Common.{length, None}
use Rattle.flash_steps.specs.Steps.{write_steps}
use Rattle.flash_ops.specs.Moves.{makes, looks}
use Rattle.flash_ops.proofs.Runs.{period_ran}
use Rattle.flash_ops.proofs.Can.{can_blind, can_first, can_kept, room_behind}
use Rattle.flash_ops.proofs.PeriodLemmas.{period_looked, period_of_steps}
use Rattle.flash_ops.proofs.writing.write_period.Goals as goal

-- the programs alone
pub program-made-requires-clause-can : goal.program-made-requires-clause-can
program-made-requires-clause-can g c =
    let d = g.K.Duty in
    let probe = c.args.beat.now.probe in
    let moves = makes (write_steps c.args.at c.args.bytes.now) in
    can_kept d.part d.grants d.moved moves None c.args.core c.enter-quiet.result
    c.enter-quiet.ensures.keeps (can_blind d.part d.grants d.moved moves probe c.args.core
    (can_first d.part d.grants d.moved moves (looks probe) probe c.args.core c.requires.can))

-- they leave room for the look
pub look_behind-looked-requires-clause-room : goal.look_behind-looked-requires-clause-room
look_behind-looked-requires-clause-room g c =
    let d = g.K.Duty in
    room_behind d.part d.grants d.moved c.args.k
    (makes (write_steps c.args.at c.args.bytes.now)) c.args.beat.now.probe
    c.begin.new.beat.probe c.program-made.result c.args.core c.enter-quiet.result
    c.program-made.new.quiet c.leave-core.result c.begin.ensures.probe c.requires.can
    c.enter-quiet.ensures.keeps c.program-made.ensures.ran c.leave-core.ensures.keeps

-- the programs, and the look behind them
pub returns-clause-ran : goal.returns-clause-ran
returns-clause-ran g c =
    period_ran c.args.k (makes (write_steps c.args.at c.args.bytes.now)) c.args.beat.now.probe
    c.begin.new.beat.probe c.program-made.result c.look_behind-looked.result c.args.core
    c.enter-quiet.result c.program-made.new.quiet c.leave-core.result
    c.look_behind-looked.new.core c.begin.ensures.probe c.enter-quiet.ensures.keeps
    c.program-made.ensures.ran c.leave-core.ensures.keeps c.look_behind-looked.ensures.looks

-- in a quiet period of so many steps
pub returns-clause-period : goal.returns-clause-period
returns-clause-period g c =
    let n = length (write_steps c.args.at c.args.bytes.now) in
    period_looked n c.args.k c.begin.new.beat.probe c.program-made.result
    c.look_behind-looked.result c.args.core c.leave-core.result c.look_behind-looked.new.core
    (period_of_steps n c.program-made.result c.args.core c.enter-quiet.result
    c.program-made.new.quiet c.leave-core.result c.enter-quiet.ensures.shows
    c.program-made.ensures.shows c.leave-core.ensures.shows) c.look_behind-looked.ensures.looks
    c.look_behind-looked.ensures.shows
