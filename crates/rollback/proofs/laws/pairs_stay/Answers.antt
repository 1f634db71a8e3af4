use Rattle.rollback.proofs.LifeLemmas.{boot_pair, pair_writes, rewrite_pair, verdict_boots}
use Rattle.rollback.proofs.laws.pairs_stay.Goals as goal

pub returns : goal.returns
returns c = record { writes = pair_writes; boot = boot_pair; lost = rewrite_pair; verdict = verdict_boots }
