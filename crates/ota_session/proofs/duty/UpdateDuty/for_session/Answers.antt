use Rattle.std.proofs.Common.{arith}
use Rattle.ota_session.proofs.duty.UpdateDuty.for_session.Goals as goal

-- the image is no longer than its aim tells
pub invariant_of-result : goal.invariant_of-result
invariant_of-result c = omega (arith, c.requires.long)
