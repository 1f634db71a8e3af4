use Rattle.cache_gate.proofs.Taken.{backs}
use Rattle.cache_gate.proofs.turns.back.Goals as goal

pub give-requires-clause-value : goal.give-requires-clause-value
give-requires-clause-value g c =
    backs _ c.args.seat.now c.take-bus.new.seat c.take-bus.result c.take-bus.ensures.taken
    c.take-bus.ensures.value c.core.result c.core.ensures.exact c.back.new.self
    c.core.ensures.within c.known.ensures.fits c.requires.awake c.requires.saved c.back.ensures.exact
    c.back.ensures.stands
