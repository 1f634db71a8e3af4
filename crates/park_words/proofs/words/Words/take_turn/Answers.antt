use Rattle.std.proofs.Common.{rules, ◌∷◌, sym, ap, ◌∙◌, Some}
use Rattle.atomic_table.specs.Table.{rest}
use Rattle.park_words.proofs.TurnSteps.{takes_turn}
use Rattle.park_words.proofs.words.Words.take_turn.Goals as goal

pub compare_exchange-word-requires : goal.compare_exchange-word-requires
compare_exchange-word-requires g c =
    let V = g.V.Records in (
      search rules,
      search rules,
      takes_turn V.records V.runs V.stands _ _ _ c.seat.invariant.one _ _ (search rules),
    )

pub exchange-slot-requires : goal.exchange-slot-requires
exchange-slot-requires g c =
    let took = c.compare_exchange-word.ensures.2.0 (search rules) in
    (search rules, (Some took.0, took.2 ∙ ap (λ cs. (0, Some took.0) ∷ rest cs) (sym took.2)))
