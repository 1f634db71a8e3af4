use Rattle.mmu_map.proofs.Free.{IsScanned}
use Rattle.mmu_map.proofs.runs.lowest_free.Given as goal

-- the run that ends here, and the longest so far
abbrev pub invariant-loop-i : goal.invariant-loop-i
invariant-loop-i l = IsScanned l.uses l.n l.i l.run l.longest
