use Rattle.std.proofs.Common.{rules}
use Rattle.park_words.proofs.Exchanges.{loads}
use Rattle.park_words.proofs.words.Words.asked.Goals as goal

pub load-found-requires : goal.load-found-requires
load-found-requires g c = let V =
    g.V.Records in (
      search rules,
      search rules,
      loads V.records V.runs V.stands _ _ _ _ _ c.seat.invariant.one,
    )
