use Rattle.boot_run.proofs.AimLemmas.{aim_begins}
use Rattle.boot_run.proofs.laws.aims_begin_updates.Goals as goal

pub returns : goal.returns
returns c = aim_begins
