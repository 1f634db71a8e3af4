-- So many bytes were read back and handed to the verifier.
use Rattle.std.proofs.Common.{◌-◌}
use Rattle.ota_session.proofs.ReadBackLemmas.{HasFed}
use Rattle.ota_session.proofs.readback.read_back.Given as goal

abbrev pub invariant-loop-done : goal.invariant-loop-done
invariant-loop-done g l = HasFed l.target l.done l.verifier l.fn.core l.core

abbrev pub decreases-loop-done : goal.decreases-loop-done
decreases-loop-done g l = l.target.length - l.done
