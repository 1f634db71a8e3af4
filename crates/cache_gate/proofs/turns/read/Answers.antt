use Rattle.std.proofs.Common.{rules, sym, subst, List, []}
use Rattle.duo_machine.specs.declared.events.Kind.{Kind}
use Rattle.cache_gate.specs.Works.{Tells}
use Rattle.cache_gate.proofs.Walks.{works_first, asked_works}
use Rattle.cache_gate.proofs.Taken.{reads, read_part}
use Rattle.cache_gate.proofs.turns.read.Goals as goal

pub give-requires-clause-value : goal.give-requires-clause-value
give-requires-clause-value g c =
    reads _ c.args.seat.now c.take-bus.new.seat c.take-bus.result c.take-bus.ensures.taken
    c.take-bus.ensures.value c.core.result c.core.ensures.exact c.read-answer.new.self
    c.core.ensures.within c.known.ensures.fits c.read-answer.result
    c.read-answer.ensures.exact c.read-answer.ensures.stands

pub returns-clause-works : goal.returns-clause-works
returns-clause-works g c =
    let u = c.args.seat.now.view in
    let v = c.take-bus.new.seat.view in
    let w = c.give.new.seat.view in
    subst (λ (l : List Kind). Tells l u.core u.seen w.core w.seen) (sym (asked_works c.read-answer.result))
    (works_first [] u.core v.core w.core u.seen v.seen w.seen c.take-bus.ensures.works
    c.give.ensures.works)

pub returns-clause-bytes : goal.returns-clause-bytes
returns-clause-bytes g c =
    read_part _ c.args.seat.now c.take-bus.new.seat c.take-bus.result g.D.Nor.bytes
    c.read-answer.result c.args.at _ c.read-answer.new.out c.take-bus.ensures.taken
    c.take-bus.ensures.value (search rules) c.read-answer.ensures.bytes
