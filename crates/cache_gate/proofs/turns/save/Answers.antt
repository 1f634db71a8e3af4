use Rattle.cache_gate.proofs.Taken.{saves}
use Rattle.cache_gate.proofs.turns.save.Goals as goal

pub give-requires-clause-value : goal.give-requires-clause-value
give-requires-clause-value g c =
    saves _ c.args.seat.now c.take-bus.new.seat c.take-bus.result c.take-bus.ensures.taken
    c.take-bus.ensures.value c.core.result c.core.ensures.exact c.save.new.self
    c.core.ensures.within c.known.ensures.fits c.requires.awake c.requires.unsaved c.save.ensures.exact
    c.save.ensures.stands
