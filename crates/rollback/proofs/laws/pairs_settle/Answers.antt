use Rattle.rollback.proofs.LifeLemmas.{boot_settles, confirm_settles, second_boot_settles}
use Rattle.rollback.proofs.laws.pairs_settle.Goals as goal

pub returns : goal.returns
returns c = record { boot = boot_settles; second_boot = second_boot_settles; confirm = confirm_settles }
