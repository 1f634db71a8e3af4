use Rattle.power_cut.proofs.LaidLemmas.{announced_steps}
use Rattle.power_cut.proofs.laws.a_boot_of_an_announced_entry_has_two_steps.Goals as goal

pub returns : goal.returns
returns c = record { steps = announced_steps }
