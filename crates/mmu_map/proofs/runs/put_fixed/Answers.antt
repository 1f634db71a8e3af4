use Rattle.std.proofs.Common.{arith}
use Rattle.mmu_map.proofs.WithRun.{fixed_more}
use Rattle.mmu_map.proofs.runs.put_fixed.Goals as goal

-- one more page is put
pub loop-i-preserved : goal.loop-i-preserved
loop-i-preserved c =
    fixed_more c.loop-i.part c.args.flash_page c.loop-i.i (omega arith) c.loop-i.invariant
