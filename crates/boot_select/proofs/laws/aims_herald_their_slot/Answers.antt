use Rattle.boot_select.proofs.TargetLemmas.{aim-heralds}
use Rattle.boot_select.proofs.laws.aims_herald_their_slot.Goals as goal

pub returns : goal.returns
returns c = aim-heralds
