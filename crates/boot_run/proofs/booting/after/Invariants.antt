use Rattle.std.proofs.Common.{◌≡◌, drop}
use Rattle.boot_select.specs.Settled.{sectors}
use Rattle.rollback.specs.Rewrite.{written}
use Rattle.boot_run.proofs.booting.after.Given as goal

-- the rewrites that are left lead to the same entries
abbrev pub invariant-loop-write : goal.invariant-loop-write
invariant-loop-write l = record {
  first : written (drop l.write-index l.writes) (sectors l.first l.second) 0
      ≡ written l.writes (sectors l.fn.e0 l.fn.e1) 0;
  second : written (drop l.write-index l.writes) (sectors l.first l.second) 1
      ≡ written l.writes (sectors l.fn.e0 l.fn.e1) 1;
}
