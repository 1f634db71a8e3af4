use Rattle.std.proofs.Common.{rules, ap}
use Rattle.park_words.proofs.words.Words.exchange.Goals as goal

pub compare_exchange-found-requires : goal.compare_exchange-found-requires
compare_exchange-found-requires g c = (
  search rules,
  search rules,
  c.requires.may _ _ _ c.seat.inside.seat.me c.seat.invariant.one
      (ap (λ z. z.view) c.seat.view_is),
)
