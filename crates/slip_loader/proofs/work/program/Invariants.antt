use Rattle.std.proofs.Common.{◌≡◌, ◌+◌, length, None}
use Rattle.nor_device.specs.Nor.{KeepsSetting}
use Rattle.flash_steps.specs.Steps.{write_steps}
use Rattle.slip_loader.proofs.WorkLemmas.{Writing}
use Rattle.slip_loader.proofs.work.program.Given as goal

-- the pages in front are programmed
abbrev pub invariant-loop-step : goal.invariant-loop-step
invariant-loop-step g l = let n = g.D.Nor in record {
  idle : n.running l.device ≡ None;
  inside : l.at + length l.rest ≡ l.fn.at + length l.fn.bytes;
  writing : Writing (write_steps l.fn.at l.fn.bytes) (write_steps l.at l.rest)
      (n.steps l.fn.device) (n.steps l.device) (n.bytes l.fn.device) (n.bytes l.device);
  setting : KeepsSetting n.size n.setting l.fn.device l.device;
  faults_same : n.faults l.device ≡ n.faults l.fn.device;
}

abbrev pub decreases-loop-step : goal.decreases-loop-step
decreases-loop-step g l = length l.rest
