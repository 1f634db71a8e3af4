use Rattle.std.proofs.Common.{rules}
use Rattle.cache_gate.proofs.Taken.{sets, room_taken}
use Rattle.cache_gate.proofs.turns.set.Goals as goal

pub set-requires-clause-room : goal.set-requires-clause-room
set-requires-clause-room g c =
    room_taken c.args.seat.now c.take-bus.new.seat c.take-bus.result _ _ c.take-bus.ensures.taken
    c.known.ensures.room c.requires.room (search rules)

pub give-requires-clause-value : goal.give-requires-clause-value
give-requires-clause-value g c =
    sets _ c.args.seat.now c.take-bus.new.seat c.take-bus.result c.take-bus.ensures.taken
    c.take-bus.ensures.value c.core.result c.core.ensures.exact c.set.new.self
    c.core.ensures.within c.known.ensures.fits c.args.k c.args.regs
    c.requires.running c.requires.unsaved c.requires.mask c.set.ensures.exact c.set.ensures.stands
    c.requires.room
