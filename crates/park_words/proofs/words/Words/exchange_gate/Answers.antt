use Rattle.std.proofs.Common.{ℕ, subst, sym}
use Rattle.park_words.specs.Told.{MayExchange}
use Rattle.park_words.proofs.words.Words.exchange_gate.Goals as goal

pub exchange-requires-clause-may : goal.exchange-requires-clause-may
exchange-requires-clause-may g c =
    let V = g.V.Records in let E = g.E.GateEvent in
    subst (λ (z : ℕ × ℕ × ℕ). MayExchange V.records V.runs V.stands E.kind E.phase E.held z.0 z.1
    z.2 c.args.seat.now.view)
    (λ k. (
      sym c.gate_place-word.ensures k,
      sym c.gate_number-awaited.ensures k,
      sym c.gate_number-next.ensures k,
    )) c.requires.may
