-- By cases on what each core does.
use Rattle.duo_machine.proofs.WayHome.{way_home}
use Rattle.duo_machine.proofs.moves.every_machine_has_a_way_home.Goals as goal

pub returns : goal.returns
returns c = way_home
