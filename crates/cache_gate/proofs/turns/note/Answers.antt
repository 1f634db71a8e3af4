use Rattle.duo_machine.specs.declared.events.Kind.{Kind}
use Rattle.cache_gate.specs.Works.{Tells}
use Rattle.cache_gate.proofs.Walks.{works_first, note_works}
use Rattle.std.proofs.Common.{rules, sym, subst, List, []}
use Rattle.cache_gate.proofs.Taken.{notes, room_taken}
use Rattle.cache_gate.proofs.turns.note.Goals as goal

pub note-requires-clause-room : goal.note-requires-clause-room
note-requires-clause-room g c =
    room_taken c.args.seat.now c.take-bus.new.seat c.take-bus.result _ _ c.take-bus.ensures.taken
    c.known.ensures.room c.requires.room (search rules)

pub give-requires-clause-value : goal.give-requires-clause-value
give-requires-clause-value g c =
    notes _ c.args.seat.now c.take-bus.new.seat c.take-bus.result c.take-bus.ensures.taken
    c.take-bus.ensures.value c.core.result c.core.ensures.exact c.note.new.self
    c.core.ensures.within c.known.ensures.fits c.args.k c.«record».result
    c.args.act c.«record».ensures c.note.ensures.exact c.note.ensures.stands c.requires.room

pub returns-clause-works : goal.returns-clause-works
returns-clause-works g c =
    let u = c.args.seat.now.view in
    let v = c.take-bus.new.seat.view in
    let w = c.give.new.seat.view in
    subst (λ (l : List Kind). Tells l u.core u.seen w.core w.seen) (sym (note_works c.args.k c.args.seat.now.view.registers.regs
    c.args.act c.requires.note))
    (works_first [] u.core v.core w.core u.seen v.seen w.seen c.take-bus.ensures.works
    c.give.ensures.works)
