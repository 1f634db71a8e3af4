use Rattle.std.proofs.Common.{rules, ◌∷◌, subst, sym, ap, ◌∙◌, Some}
use Rattle.atomic_table.specs.Table.{rest}
use Rattle.park_words.specs.Views.{in_hand}
use Rattle.park_words.specs.Told.{Gives}
use Rattle.park_words.proofs.TurnSteps.{gives_turn}
use Rattle.park_words.proofs.words.Words.give.Goals as goal

pub store-requires : goal.store-requires
store-requires g c =
    let V = g.V.Records in let value = c.args.value in let work = g.J.Worked.work in let put =
    c.exchange-empty.ensures.3 in
    let known = ap (λ m. m.0) put ∙ ap (λ z. z.view) c.seat.view_is in
    let has = ap (λ z. z.view.turn) c.seat.view_is ∙ c.requires.turn in
    let hand = ap (λ m. m.1) put
    ∙ ap (λ cs. (0, Some value) ∷ rest cs)
    (c.seat.invariant.hand ∙ ap in_hand (sym c.seat.invariant.turn_is ∙ has)) in (
      search rules,
      search rules,
      gives_turn V.records V.runs V.stands _ _ _
          (ap (λ m. m.0.stage) put ∙ c.seat.invariant.one) _ value work c.self.invariant.1
          (ap (λ v. v.turn) known ∙ c.requires.turn) hand
          (subst (λ v. Gives V.records V.runs V.stands v value work) (sym known) c.requires.value),
    )
