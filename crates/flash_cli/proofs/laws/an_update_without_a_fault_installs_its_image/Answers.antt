use Rattle.flash_cli.proofs.InstallLaws.{faultless_installs}
use Rattle.flash_cli.proofs.laws.an_update_without_a_fault_installs_its_image.Goals as goal

pub returns : goal.returns
returns c = record { installed = faultless_installs }
