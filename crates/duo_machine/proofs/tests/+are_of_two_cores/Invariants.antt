use Rattle.std.proofs.Common.{length}
use Rattle.duo_machine.proofs.tests.+are_of_two_cores.Given as goal

-- the events that are left
abbrev pub decreases-are_of_two_cores : goal.decreases-are_of_two_cores
decreases-are_of_two_cores l = length l.events.now
