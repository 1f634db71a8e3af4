-- Each event keeps a machine safe, so each machine on the way is safe; the rest is read off safe
-- machines.
use Rattle.duo_machine.proofs.RunLemmas.{safe_run}
use Rattle.duo_machine.proofs.moves.every_run_is_safe.Goals as goal

pub returns : goal.returns
returns c = safe_run
