use Rattle.cache_gate.proofs.Taken.{polls_own}
use Rattle.cache_gate.proofs.turns.poll.Goals as goal

pub give-requires-clause-value : goal.give-requires-clause-value
give-requires-clause-value g c =
    polls_own _ c.args.seat.now c.take-bus.new.seat c.take-bus.result c.take-bus.ensures.taken
    c.take-bus.ensures.value c.core.result c.core.ensures.exact c.poll-answer.new.self
    c.core.ensures.within c.known.ensures.fits g.D.Nor.bytes c.args.k c.«record».result
    c.«record».ensures g.K.Duty.after c.poll-answer.result c.requires.quiet c.requires.stepping
    c.requires.base c.requires.begun c.known.ensures.step c.poll-answer.ensures.exact
    c.poll-answer.ensures.stands
