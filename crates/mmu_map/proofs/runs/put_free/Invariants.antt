use Rattle.std.proofs.Common.{◌≡◌, ◌-◌, ◌++◌, length, take, replicate}
use Rattle.mmu_map.specs.declared.page_use.PageUse.TheVariants.{Free}
use Rattle.mmu_map.proofs.runs.put_free.Given as goal

-- what is put and what is left are the whole run
abbrev pub invariant-loop-i : goal.invariant-loop-i
invariant-loop-i l = take l.i l.part ++ replicate (length l.part - l.i) Free
    ≡ replicate (length l.part) Free
