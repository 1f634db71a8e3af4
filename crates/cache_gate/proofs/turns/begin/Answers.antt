use Rattle.std.proofs.Common.{rules}
use Rattle.cache_gate.proofs.Taken.{room_taken, begins}
use Rattle.cache_gate.proofs.turns.begin.Goals as goal

pub start-answer-requires-clause-room : goal.start-answer-requires-clause-room
start-answer-requires-clause-room g c =
    room_taken c.args.seat.now c.take-bus.new.seat c.take-bus.result _ _ c.take-bus.ensures.taken
    c.known.ensures.room c.requires.room (search rules)

pub give-requires-clause-value : goal.give-requires-clause-value
give-requires-clause-value g c =
    begins _ c.args.seat.now c.take-bus.new.seat c.take-bus.result c.take-bus.ensures.taken
    c.take-bus.ensures.value c.core.result c.core.ensures.exact c.start-answer.new.self
    c.core.ensures.within c.known.ensures.fits g.D.Nor.bytes c.args.k c.«record».result
    c.«record».ensures c.args.step.now c.start-answer.result c.requires.quiet c.requires.idle
    c.start-answer.ensures.ok c.start-answer.ensures.err c.start-answer.ensures.stands c.requires.room
