use Rattle.std.proofs.Common.{rules}
use Rattle.park_words.proofs.May.{may_park}
use Rattle.park_words.proofs.words.Words.park.Goals as goal

pub exchange_gate-requires-clause-may : goal.exchange_gate-requires-clause-may
exchange_gate-requires-clause-may g c = let V =
    g.V.Records in may_park V.records V.runs V.stands _ _
    (search rules) c.requires.running c.requires.saved
