use Rattle.std.proofs.Common.{◌≡◌, false, IfSome, drop}
use Rattle.nor_device.specs.Nor.{IsIdleAsBefore, KeepsSteps}
use Rattle.boot_select.specs.Boots.{first_held, images_in}
use Rattle.boot_run.specs.Above.{held_above}
use Rattle.boot_run.proofs.start.first_on.Given as goal

-- those in front have no image that is no older
abbrev pub invariant-loop-app : goal.invariant-loop-app
invariant-loop-app g l = let n = g.D.Nor in record {
  on : n.off l.device ≡ false;
  none : IfSome (n.bytes l.fn.device)
      (λ flash. first_held (images_in (held_above l.level) l.layout flash) (drop l.app-index l.apps)
      ≡ first_held (images_in (held_above l.level) l.layout flash) l.apps);
  same : IsIdleAsBefore n.bytes n.running l.fn.device l.device;
  setting : KeepsSteps n.size n.setting n.steps l.fn.device l.device;
  faults_same : n.faults l.device ≡ n.faults l.fn.device;
}
