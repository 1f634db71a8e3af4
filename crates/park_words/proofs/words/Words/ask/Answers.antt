use Rattle.std.proofs.Common.{ap, arith}
use Rattle.park_words.proofs.May.{may_ask}
use Rattle.park_words.proofs.words.Words.ask.Goals as goal

pub exchange_gate-requires-clause-may : goal.exchange_gate-requires-clause-may
exchange_gate-requires-clause-may g c =
    let V = g.V.Records in let small = c.seat.invariant.small in let core =
    c.seat.invariant.core_is in let same = ap (λ z. z.view.core) c.seat.view_is in
    may_ask V.records V.runs V.stands _ _ (omega arith) c.requires.owning c.requires.saved
