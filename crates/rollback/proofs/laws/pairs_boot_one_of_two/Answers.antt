use Rattle.rollback.proofs.PairLemmas.{pair_boots}
use Rattle.rollback.proofs.laws.pairs_boot_one_of_two.Goals as goal

pub returns : goal.returns
returns c = pair_boots
