use Rattle.std.proofs.Common.{◌≡◌, false, None, take}
use Rattle.nor_device.specs.Nor.{KeepsSetting}
use Rattle.boot_run.specs.Made.{AreMade}
use Rattle.boot_run.specs.Rewriting.{rewrites}
use Rattle.boot_run.proofs.write.write_all.Given as goal

-- the rewrites in front are made
abbrev pub invariant-loop-write : goal.invariant-loop-write
invariant-loop-write g l = let n = g.D.Nor in record {
  idle : n.running l.device ≡ None;
  on : n.off l.device ≡ false;
  made : AreMade n.may_end n.may_tear n.may_refuse n.must_refuse (n.setting l.fn.device)
      (rewrites l.otadata (take l.write-index l.writes)) (n.steps l.fn.device) (n.steps l.device)
      (n.bytes l.fn.device) (n.bytes l.device);
  setting : KeepsSetting n.size n.setting l.fn.device l.device;
  faults_same : n.faults l.device ≡ n.faults l.fn.device;
}
