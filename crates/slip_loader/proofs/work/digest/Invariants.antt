use Rattle.std.proofs.Common.{◌≡◌, ◌≤◌, ◌-◌, IfSome}
use Rattle.md5.specs.Md5.{Holds}
use Rattle.nor_device.specs.Nor.{IsIdleAsBefore, KeepsSteps, part_of}
use Rattle.slip_loader.proofs.work.digest.Given as goal

-- the bytes in front are hashed
abbrev pub invariant-loop-done : goal.invariant-loop-done
invariant-loop-done g l = let n = g.D.Nor in record {
  within : l.done ≤ l.len;
  hashed : IfSome (n.bytes l.fn.device) (λ flash. Holds l.hasher (part_of flash l.at l.done));
  same : IsIdleAsBefore n.bytes n.running l.fn.device l.device;
  setting : KeepsSteps n.size n.setting n.steps l.fn.device l.device;
  faults_same : n.faults l.device ≡ n.faults l.fn.device;
}

abbrev pub decreases-loop-done : goal.decreases-loop-done
decreases-loop-done g l = l.len - l.done
