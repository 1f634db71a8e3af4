use Rattle.std.proofs.Common.{arith}
use Rattle.mmu_map.proofs.WithRun.{free_more}
use Rattle.mmu_map.proofs.runs.put_free.Goals as goal

-- one more page is left free
pub loop-i-preserved : goal.loop-i-preserved
loop-i-preserved c = free_more c.loop-i.part c.loop-i.i (omega arith) c.loop-i.invariant
