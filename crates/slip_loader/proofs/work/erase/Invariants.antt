use Rattle.std.proofs.Common.{◌≡◌, ◌≤◌, ◌*◌, ◌-◌, None}
use Rattle.nor_device.specs.Nor.{KeepsSetting}
use Rattle.crash_images.specs.Crash.{IsAfterAll}
use Rattle.flash_steps.specs.Steps.{erase_steps}
use Rattle.slip_loader.specs.Loads.{count_after}
use Rattle.slip_loader.proofs.work.erase.Given as goal

-- the sectors in front are erased
abbrev pub invariant-loop-sector : goal.invariant-loop-sector
invariant-loop-sector g l = let n = g.D.Nor in record {
  idle : n.running l.device ≡ None;
  above : l.fn.at ≤ l.sector * 4096;
  made : IsAfterAll (erase_steps l.fn.at (l.sector * 4096 - l.fn.at)) (n.bytes l.fn.device)
      (n.bytes l.device);
  counted : n.steps l.device
      ≡ count_after (n.steps l.fn.device) (erase_steps l.fn.at (l.sector * 4096 - l.fn.at));
  setting : KeepsSetting n.size n.setting l.fn.device l.device;
  faults_same : n.faults l.device ≡ n.faults l.fn.device;
}
