use Rattle.std.proofs.Common.{arith}
use Rattle.mmu_map.proofs.WithRun.{later_more}
use Rattle.mmu_map.proofs.runs.put_later.Goals as goal

-- one more page is put
pub loop-i-preserved : goal.loop-i-preserved
loop-i-preserved c =
    later_more c.loop-i.part c.args.flash_page c.loop-i.i (omega arith) c.loop-i.invariant
