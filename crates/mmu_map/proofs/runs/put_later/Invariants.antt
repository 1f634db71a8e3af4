use Rattle.std.proofs.Common.{◌≡◌, ◌+◌, ◌-◌, ◌++◌, length, take}
use Rattle.mmu_map.specs.Runs.{later_run}
use Rattle.mmu_map.proofs.runs.put_later.Given as goal

-- what is put and what is left are the whole run
abbrev pub invariant-loop-i : goal.invariant-loop-i
invariant-loop-i l = take l.i l.part ++ later_run (l.flash_page + l.i) (length l.part - l.i)
    ≡ later_run l.flash_page (length l.part)
