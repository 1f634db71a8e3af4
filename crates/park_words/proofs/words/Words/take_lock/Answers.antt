use Rattle.std.proofs.Common.{rules}
use Rattle.park_words.proofs.May.{may_take_lock}
use Rattle.park_words.proofs.words.Words.take_lock.Goals as goal

pub exchange-requires-clause-may : goal.exchange-requires-clause-may
exchange-requires-clause-may g c = let V =
    g.V.Records in may_take_lock V.records V.runs V.stands _ _ (search rules) c.requires.running
