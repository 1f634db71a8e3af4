use Rattle.std.proofs.Common.{rules, ap, ◌∙◌, arith}
use Rattle.park_words.proofs.Events.{sees}
use Rattle.park_words.proofs.words.Words.look.Goals as goal

pub load-found-requires : goal.load-found-requires
load-found-requires g c =
    let V = g.V.Records in let small = c.seat.invariant.small in let core =
    c.seat.invariant.core_is in let place = c.gate_place-word.ensures in (
      search rules,
      search rules,
      sees V.records V.runs V.stands _ _ _ c.seat.inside.seat.me c.seat.invariant.one _
          (omega arith) (ap (λ z. z.view.phase) c.seat.view_is ∙ c.requires.asking),
    )
