-- By cases on what the core waits for, at core 0 and at core 1.
use Rattle.duo_machine.proofs.Waits.{waits_end}
use Rattle.duo_machine.proofs.moves.every_wait_ends.Goals as goal

pub returns : goal.returns
returns c = waits_end
