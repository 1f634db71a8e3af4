use Rattle.std.proofs.Common.{rules, ◌<◌, ap, subst, sym, ◌∙◌, arith}
use Rattle.irq_lines.specs.declared.view.View.{View}
use Rattle.irq_lines.specs.Story.{made}
use Rattle.irq_lines.specs.Told.{RaisedOnce}
use Rattle.irq_lines.proofs.Kept.{may_raise, room, raise_kept, told_once}
use Rattle.irq_lines.proofs.lines.Lines.raise.Goals as goal

pub fetch_or-found-requires : goal.fetch_or-found-requires
fetch_or-found-requires c = (
  search rules,
  search rules,
  may_raise _ _ c.from.result c.from-2.result c.args.core c.args.line c.seat.inside.seat.me
      c.seat.invariant.one c.seat.invariant.is_run c.from.ensures
      (c.from-2.ensures ∙ c.bit_of-bits.ensures.exact) c.requires.core
      (let within = c.bit_of-bits.ensures.within in let same = c.from-2.ensures in omega arith)
      (subst (λ (v : View). made v.core v.seen c.args.core c.args.line < 4294967295)
      (sym (ap (λ z. z.view) c.seat.view_is)) c.requires.few),
)

pub add-requires-2-clause-room : goal.add-requires-2-clause-room
add-requires-2-clause-room c = λ k l small line.
    let fits = room c.seat.inside.seat.me _ _ _ _ c.seat.invariant k l small line in
    let here = fits.1 in omega arith

pub invariant_of-seat : goal.invariant_of-seat
invariant_of-seat c =
    raise_kept c.seat.inside.seat.me _ _ _ _ _ _ c.seat.invariant c.args.core c.args.line
    c.from.result c.from-2.result c.bit_of-bits.result _ _ _ _ c.from.ensures
    (c.from-2.ensures ∙ c.bit_of-bits.ensures.exact) c.bit_of-bits.ensures.exact c.only_if.ensures
    c.fetch_or-found.ensures.2 c.is_clear-fresh.ensures c.add.ensures c.add-2.ensures

pub returns-clause-counted : goal.returns-clause-counted
returns-clause-counted c =
    subst (λ (v : View). RaisedOnce c.args.core c.args.line v c.fetch_or-found.new.seat.me.0)
    (ap (λ z. z.view) c.seat.view_is)
    (told_once c.args.core c.args.line c.from.result c.from-2.result _ c.seat.inside.seat.me _
    c.from.ensures (c.from-2.ensures ∙ c.bit_of-bits.ensures.exact) c.fetch_or-found.ensures.2)
