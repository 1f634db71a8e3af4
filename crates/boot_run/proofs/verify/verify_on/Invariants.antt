use Rattle.std.proofs.Common.{◌≡◌, ◌≤◌, ◌-◌, false, IfSome}
use Rattle.nor_device.specs.Nor.{IsIdleAsBefore, KeepsSteps}
use Rattle.boot_select.specs.Boots.{slot_in}
use Rattle.boot_run.proofs.ReadLemmas.{Between}
use Rattle.boot_run.proofs.verify.verify_on.Given as goal

-- so many bytes were read, and so many are read next
abbrev pub invariant-loop-more : goal.invariant-loop-more
invariant-loop-more g l = let n = g.D.Nor in record {
  on : n.off l.device ≡ false;
  within : l.done ≤ l.row.size;
  rest : l.more ≤ l.row.size - l.done;
  fits : l.more ≤ 4096;
  read : IfSome (n.bytes l.fn.device)
      (λ flash. Between l.verifier (slot_in flash l.row) l.done l.more);
  same : IsIdleAsBefore n.bytes n.running l.fn.device l.device;
  setting : KeepsSteps n.size n.setting n.steps l.fn.device l.device;
  faults_same : n.faults l.device ≡ n.faults l.fn.device;
}

abbrev pub decreases-loop-more : goal.decreases-loop-more
decreases-loop-more g l = l.row.size - l.done
