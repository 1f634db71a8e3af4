use Rattle.std.proofs.Common.{rules, ap, subst, refl, arith}
use Rattle.irq_lines.specs.declared.view.View.{View}
use Rattle.irq_lines.specs.Story.{made, raised, served}
use Rattle.irq_lines.specs.Counts.{Adds}
use Rattle.irq_lines.specs.Told.{EndsIn}
use Rattle.irq_lines.proofs.Kept.{room}
use Rattle.irq_lines.proofs.Ends.{joins, ends_in, is_even, sums_are, adds_one}
use Rattle.irq_lines.proofs.lines.Lines.close.Goals as goal

pub join_seat-requires : goal.join_seat-requires
join_seat-requires c = (
  search rules,
  search rules,
  c.b.invariant.hand,
  search rules,
  joins _ _ _ _ c.a.invariant.one,
)

pub sums-all_served-requires : goal.sums-all_served-requires
sums-all_served-requires c = λ k l small line.
    let x = (room c.a.inside.seat.me _ _ _ _ c.a.invariant k l small line).2 in
    let y = (room c.b.inside.seat.me _ _ _ _ c.b.invariant k l small line).2 in omega arith

pub add-requires-clause-room : goal.add-requires-clause-room
add-requires-clause-room c = λ k l small line.
    let x = (room c.a.inside.seat.me _ _ _ _ c.a.invariant k l small line).2 in
    let y = (room c.b.inside.seat.me _ _ _ _ c.b.invariant k l small line).2 in
    let s = c.sums-all_served.ensures k l small line in omega arith

pub add-requires-2-clause-room : goal.add-requires-2-clause-room
add-requires-2-clause-room c = λ k l small line.
    let x = (room c.a.inside.seat.me _ _ _ _ c.a.invariant k l small line).2 in
    let y = (room c.b.inside.seat.me _ _ _ _ c.b.invariant k l small line).2 in
    let s = c.sums-all_served.ensures k l small line in
    let a = adds_one _ _ _ _ c.add.ensures k l small line in omega arith

pub sums-requires-2 : goal.sums-requires-2
sums-requires-2 c = λ k l small line.
    let x = (room c.a.inside.seat.me _ _ _ _ c.a.invariant k l small line).1 in
    let y = (room c.b.inside.seat.me _ _ _ _ c.b.invariant k l small line).1 in omega arith

pub returns-clause-balance : goal.returns-clause-balance
returns-clause-balance c =
    let first = c.serve_last-first.ensures.told in let second = c.serve_last-second.ensures.told in
    let a = c.a.invariant in let b = c.b.invariant in
    let v = c.a.inside.seat.me.0 in let w = c.b.inside.seat.me.0 in
    is_even v w c.join_seat.new.seat.me.0
    c.serve_last-first.new.seat.me.0 c.serve_last-second.new.seat.me.0 _ _ first.0 second.0 _ _ _
    c.sums-all_served.result c.add.new.counts c.add-2.new.counts
    (ap (λ m. m.0) c.join_seat.ensures.2)
    first.2.1 (ap (λ m. m.0) first.2.0) second.2.1 (ap (λ m. m.0) second.2.0)
    c.last_words-pending.ensures.apart c.last_words-pending.ensures.story
    (sums_are made v w _ _ _ _ _ c.sums.ensures a.calls_are b.calls_are a.core_is b.core_is)
    (sums_are raised v w _ _ _ _ _ c.sums-2.ensures a.fresh_are b.fresh_are a.core_is b.core_is)
    (sums_are served v w _ _ _ _ _ c.sums-all_served.ensures a.done_are b.done_are a.core_is
    b.core_is)
    (subst (λ x. Adds 0 x c.sums-all_served.result c.add.new.counts) first.1 c.add.ensures)
    (subst (λ x. Adds 1 x c.add.new.counts c.add-2.new.counts) second.1 c.add-2.ensures)

pub returns-clause-run : goal.returns-clause-run
returns-clause-run c =
    let first = c.serve_last-first.ensures.told in let second = c.serve_last-second.ensures.told in
    subst (λ (z : View × View). EndsIn z.0 z.1 c.args.masks c.last_words-pending.result)
    (λ k. ((c.a.view_is k).view, (c.b.view_is k).view))
    (ends_in _ _ first.0 second.0 c.join_seat.new.seat.me.0 c.serve_last-first.new.seat.me.0
    c.serve_last-second.new.seat.me.0 c.last_words-pending.result
    (ap (λ m. m.0.stage) c.join_seat.ensures.2) first.2.1 (ap (λ m. m.0) first.2.0)
    second.2.1 (ap (λ m. m.0) second.2.0) c.last_words-pending.ensures.story
    c.a.inside.seat.me.0 c.b.inside.seat.me.0 c.args.masks (ap (λ m. m.0) c.join_seat.ensures.2)
    refl refl)
