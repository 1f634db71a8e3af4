use Rattle.std.proofs.Common.{◌≡◌, ◌≤◌, ◌-◌, ◌%◌, ◌<◌, false, None, take, length}
use Rattle.nor_device.specs.declared.step.Step.TheVariants.{Program}
use Rattle.nor_device.specs.Nor.{KeepsSetting}
use Rattle.nor_device.specs.Make.{IsAfter}
use Rattle.crash_images.proofs.tear_step.put_back.Given as goal

-- the pages in front are put back
abbrev pub invariant-loop-done : goal.invariant-loop-done
invariant-loop-done g l = let n = g.D.Nor in record {
  whole : l.done % 256 ≡ 0;
  inside : l.done ≤ length l.part;
  on : 0 < l.done → n.off l.inner ≡ false;
  idle : n.running l.inner ≡ None;
  put : IsAfter (Program l.at (take l.done l.part)) (n.bytes l.fn.inner) (n.bytes l.inner);
  setting : KeepsSetting n.size n.setting l.fn.inner l.inner;
  faults_same : n.faults l.inner ≡ n.faults l.fn.inner;
}

abbrev pub decreases-loop-done : goal.decreases-loop-done
decreases-loop-done g l = length l.part - l.done
