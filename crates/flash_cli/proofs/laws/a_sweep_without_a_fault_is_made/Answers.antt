use Rattle.flash_cli.proofs.UnbegunLaws.{faultless_sweep}
use Rattle.flash_cli.proofs.laws.a_sweep_without_a_fault_is_made.Goals as goal

pub returns : goal.returns
returns c = record { made = faultless_sweep }
