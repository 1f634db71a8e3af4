use Rattle.std.proofs.Common.{rules, refl}
use Rattle.cache_gate.proofs.Taken.{room_taken, fetches, fetch_back, fetches_fixed}
use Rattle.cache_gate.proofs.turns.fetch.Goals as goal

pub fetch-answer-requires-clause-room : goal.fetch-answer-requires-clause-room
fetch-answer-requires-clause-room g c =
    room_taken c.args.seat.now c.take-bus.new.seat c.take-bus.result _ _ c.take-bus.ensures.taken
    c.known.ensures.room c.requires.room (search rules)

pub give-requires-clause-value : goal.give-requires-clause-value
give-requires-clause-value g c =
    let n = g.D.Nor in
    fetches _ c.args.seat.now c.take-bus.new.seat c.take-bus.result c.take-bus.ensures.taken
    c.take-bus.ensures.value c.core.result c.core.ensures.exact c.fetch-answer.new.self
    c.core.ensures.within c.known.ensures.fits n.bytes n.size n.off n.steps n.faults n.setting
    n.may_refuse n.must_refuse c.args.k c.args.at c.args.len c.«record».result
    c.«record».ensures c.fetch-answer.result c.requires.running c.fetch-answer.ensures.by_answer
    c.fetch-answer.ensures.stands c.requires.room

pub returns-clause-exact : goal.returns-clause-exact
returns-clause-exact g c =
    let n = g.D.Nor in
    fetch_back _ c.args.seat.now c.take-bus.new.seat c.give.new.seat c.take-bus.result
    c.fetch-answer.new.self _ c.take-bus.ensures.taken c.give.ensures.exact
    c.take-bus.ensures.value c.core.result c.core.ensures.exact c.core.ensures.within
    c.known.ensures.fits n.bytes n.size n.off n.steps n.faults n.setting n.may_refuse n.must_refuse
    c.args.k c.args.at c.args.len c.«record».result c.«record».ensures c.requires.running
    c.fetch-answer.result c.fetch-answer.ensures.by_answer refl

pub returns-clause-fixed : goal.returns-clause-fixed
returns-clause-fixed g c =
    fetches_fixed c.args.seat.now c.take-bus.new.seat c.take-bus.result.map
    (g.D.Nor.size c.take-bus.result.dev) c.args.at c.args.len c.fetch-answer.result
    c.take-bus.ensures.taken c.known.ensures.range c.fetch-answer.ensures.unmapped
