use Rattle.rollback.proofs.EntriesLemmas.{boots_same}
use Rattle.rollback.proofs.PairLemmas.{boots_holds, some_boots, still_boots}
use Rattle.rollback.proofs.laws.some_application_boots.Goals as goal

pub returns : goal.returns
returns c = record { holds = boots_holds; same = boots_same; some = some_boots; still = still_boots }
