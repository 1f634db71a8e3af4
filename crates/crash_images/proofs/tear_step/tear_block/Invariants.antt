use Rattle.std.proofs.Common.{◌≡◌, ◌≤◌, ◌-◌, ◌*◌, ◌+◌, ◌<◌, false, None, length}
use Rattle.nor_device.specs.Nor.{KeepsSetting}
use Rattle.crash_images.specs.TearStep.{IsMaskedBy}
use Rattle.crash_images.specs.Agrees.{StaysOutside}
use Rattle.crash_images.proofs.tear_step.tear_block.Given as goal

-- the sectors in front are torn
abbrev pub invariant-loop-done : goal.invariant-loop-done
invariant-loop-done g l = let n = g.D.Nor in record {
  inside : l.done ≤ 16;
  room : length l.part ≡ 4096;
  on : 0 < l.done → n.off l.inner ≡ false;
  idle : n.running l.inner ≡ None;
  masked : IsMaskedBy (l.block * 65536) (l.done * 4096) l.tear 0 (n.bytes l.fn.inner) (n.bytes l.inner);
  outside : StaysOutside (l.block * 65536) (l.block * 65536 + 65536) (n.bytes l.fn.inner)
      (n.bytes l.inner);
  setting : KeepsSetting n.size n.setting l.fn.inner l.inner;
  faults_same : n.faults l.inner ≡ n.faults l.fn.inner;
}

abbrev pub decreases-loop-done : goal.decreases-loop-done
decreases-loop-done g l = 16 - l.done
