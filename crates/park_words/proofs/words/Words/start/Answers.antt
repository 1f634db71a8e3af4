use Rattle.std.proofs.Common.{rules}
use Rattle.park_words.proofs.May.{may_start}
use Rattle.park_words.proofs.words.Words.start.Goals as goal

pub exchange_gate-requires-clause-may : goal.exchange_gate-requires-clause-may
exchange_gate-requires-clause-may g c = let V =
    g.V.Records in may_start V.records V.runs V.stands _ _ (search rules) c.requires.resting
