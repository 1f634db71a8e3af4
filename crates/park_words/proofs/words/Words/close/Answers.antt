use Rattle.std.proofs.Common.{rules, ◌≡◌, subst, sym, ap, ◌∙◌, Some}
use Rattle.park_words.specs.Views.{in_hand}
use Rattle.park_words.specs.Story.{RanToRest}
use Rattle.park_words.specs.Told.{IsLast}
use Rattle.park_words.proofs.Seats.{joins, closes}
use Rattle.park_words.proofs.words.Words.close.Goals as goal

pub join_seat-requires : goal.join_seat-requires
join_seat-requires g c =
    let V = g.V.Records in let a = c.a in let b = c.b in let need = c.requires in
    let idle = ap (λ z. z.view.turn) a.view_is ∙ need.first.2 in let idle' =
    ap (λ z. z.view.turn) b.view_is ∙ need.second.2 in (
      search rules,
      search rules,
      b.invariant.hand ∙ ap in_hand (sym b.invariant.turn_is ∙ idle'),
      search rules,
      joins V.records V.runs V.stands _ _ _ _ _ a.invariant.one
          (ap (λ z. z.view.phase) a.view_is ∙ need.first.1)
          (ap (λ z. z.view.phase) b.view_is ∙ need.second.1) idle idle',
    )

pub unreachable-requires : goal.unreachable-requires
unreachable-requires g c =
    let V = g.V.Records in let joined = c.join_seat in
    let last = closes V.records V.runs V.stands c.self.inside.table.shared.key.value
    joined.new.seat.id c.a.inside.seat.me.0 c.b.inside.seat.me.0 joined.new.seat.me.0 _ _ _
    (ap (λ m. m.0) joined.ensures.2) c.close_with-closed.ensures.values.2 c.take-slot.ensures.value
    in
    c.in_default.not-Some last.0 last.1

pub returns-clause-value : goal.returns-clause-value
returns-clause-value g c =
    let V = g.V.Records in let joined = c.join_seat in
    let last = closes V.records V.runs V.stands c.self.inside.table.shared.key.value
    joined.new.seat.id c.a.inside.seat.me.0 c.b.inside.seat.me.0 joined.new.seat.me.0 _ _ _
    (ap (λ m. m.0) joined.ensures.2) c.close_with-closed.ensures.values.2 c.take-slot.ensures.value
    in
    let same : Some last.0 ≡ Some c.in-Some.value = sym last.1 ∙ c.in-Some.is in
    let is : last.0 ≡ c.in-Some.value = cc same in
    subst (λ (z : g.row.V.Denot × _ × _). IsLast V.records V.runs V.stands z.0 z.1 z.2)
    (λ k. (is k, (c.a.view_is k).view, (c.b.view_is k).view)) last.2

pub returns-clause-run : goal.returns-clause-run
returns-clause-run g c =
    let V = g.V.Records in let joined = c.join_seat in
    let last = closes V.records V.runs V.stands c.self.inside.table.shared.key.value
    joined.new.seat.id c.a.inside.seat.me.0 c.b.inside.seat.me.0 joined.new.seat.me.0 _ _ _
    (ap (λ m. m.0) joined.ensures.2) c.close_with-closed.ensures.values.2 c.take-slot.ensures.value
    in
    subst (λ (z : _ × _). RanToRest z.0 z.1)
    (λ k. ((c.a.view_is k).view, (c.b.view_is k).view)) last.3
