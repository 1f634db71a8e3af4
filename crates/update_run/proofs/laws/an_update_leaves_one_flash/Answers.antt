use Rattle.update_run.proofs.AimLaws.{aims_are_one, one_flash}
use Rattle.update_run.proofs.laws.an_update_leaves_one_flash.Goals as goal

pub returns : goal.returns
returns c = record { aim = aims_are_one; flash = one_flash }
