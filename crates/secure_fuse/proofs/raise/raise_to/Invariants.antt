use Rattle.std.proofs.Common.{◌≡◌, ◌≤◌, ◌<◌, ◌-◌, ◌^◌, max}
use Rattle.secure_fuse.specs.Bits.{level_of, filled, IsStage}
use Rattle.secure_fuse.specs.Fuses.{more, LeavesOnly}
use Rattle.secure_fuse.proofs.raise.raise_to.Given as goal

-- as many of the lowest clear bits are burnt as there were calls
abbrev pub invariant-loop : goal.invariant-loop
invariant-loop g l = let z = g.Z.Fuses in let old = z.burnt l.fn.fuse in record {
  bits : z.burnt l.fuse ≡ filled 32 (l.counter - level_of old) old;
  level : level_of (z.burnt l.fuse) ≡ l.counter;
  before : l.before ≡ level_of old;
  word : old < 2 ^ 32;
  start : level_of old ≤ l.counter;
  end : l.counter ≤ max (level_of old) l.want;
  same : l.counter ≡ level_of old → l.fuse ≡ l.fn.fuse;
  calls : z.calls l.fuse ≡ more (l.counter - level_of old) (z.calls l.fn.fuse);
  faults : z.faults l.fuse ≡ z.faults l.fn.fuse;
  moments : LeavesOnly z.left l.fn.fuse l.fuse (IsStage old l.want);
}
