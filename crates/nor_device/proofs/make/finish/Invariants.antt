use Rattle.std.proofs.Common.{◌≡◌, IsSome}
use Rattle.nor_device.specs.Nor.{KeepsSetting}
use Rattle.nor_device.proofs.make.finish.Given as goal

abbrev pub invariant-loop : goal.invariant-loop
invariant-loop g l = let n = g.D.Nor in record {
  runs : IsSome (n.running l.device);
  running_same : n.running l.device ≡ n.running l.fn.device;
  bytes_same : n.bytes l.device ≡ n.bytes l.fn.device;
  steps_same : n.steps l.device ≡ n.steps l.fn.device;
  setting : KeepsSetting n.size n.setting l.fn.device l.device;
  faults_same : n.faults l.device ≡ n.faults l.fn.device;
}

-- each answer `Busy` lowers the polls that are left
abbrev pub decreases-loop : goal.decreases-loop
decreases-loop g l = g.D.Nor.left l.device
