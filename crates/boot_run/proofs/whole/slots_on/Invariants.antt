use Rattle.std.proofs.Common.{◌≡◌, ◌<◌, ℕ, false, IfSome, length, get_or}
use Rattle.std.specs.Option.{is_some}
use Rattle.nor_device.specs.Nor.{IsIdleAsBefore, KeepsSteps}
use Rattle.partition_table.specs.declared.app.App.TheVariants.{Ota}
use Rattle.boot_select.specs.Boots.{images_in}
use Rattle.image_verify.specs.Held.{held}
use Rattle.boot_run.proofs.whole.slots_on.Given as goal

-- the slots below are told
abbrev pub invariant-loop-slot : goal.invariant-loop-slot
invariant-loop-slot g l = let n = g.D.Nor in record {
  on : n.off l.device ≡ false;
  long : length l.whole ≡ 18;
  told : (k : ℕ) → k < l.slot → IfSome (n.bytes l.fn.device) (λ flash.
      get_or l.whole k false ≡ is_some (images_in held l.layout flash (Ota k)));
  same : IsIdleAsBefore n.bytes n.running l.fn.device l.device;
  setting : KeepsSteps n.size n.setting n.steps l.fn.device l.device;
  faults_same : n.faults l.device ≡ n.faults l.fn.device;
}
