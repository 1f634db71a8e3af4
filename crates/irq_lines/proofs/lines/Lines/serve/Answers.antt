use Rattle.std.proofs.Common.{rules, ap, subst, arith, inl}
use Rattle.irq_lines.specs.declared.view.View.{View}
use Rattle.irq_lines.specs.Told.{RaisesAreKept}
use Rattle.irq_lines.proofs.Kept.{may_serve, room, serve_kept, told_kept}
use Rattle.irq_lines.proofs.lines.Lines.serve.Goals as goal

pub fetch_and-found-requires : goal.fetch_and-found-requires
fetch_and-found-requires c = (
  search rules,
  search rules,
  may_serve _ _ c.from.result c.from-2.result c.seat.inside.core c.args.mask c.seat.inside.seat.me
      (inl c.seat.invariant.one) c.seat.invariant.is_run c.from.ensures c.seat.invariant.small
      c.from-2.ensures (search rules),
)

pub add-requires-clause-room : goal.add-requires-clause-room
add-requires-clause-room c = λ k l small line.
    let fits = room c.seat.inside.seat.me _ _ _ _ c.seat.invariant k l small line in
    let here = fits.2 in omega arith

pub invariant_of-seat : goal.invariant_of-seat
invariant_of-seat c =
    serve_kept c.seat.inside.seat.me _ _ _ _ _ _ c.seat.invariant c.args.mask
    c.from.result c.from-2.result _ _ c.from.ensures c.from-2.ensures (search rules)
    (search rules) c.fetch_and-found.ensures.2 c.add.ensures

pub returns-clause-same : goal.returns-clause-same
returns-clause-same c =
    subst (λ (v : View). RaisesAreKept v c.fetch_and-found.new.seat.me.0)
    (ap (λ z. z.view) c.seat.view_is)
    (told_kept _ _ _ c.seat.inside.seat.me _ c.fetch_and-found.ensures.2)
