use Rattle.std.proofs.Common.{◌≡◌, ◌&&◌, nat_lt}
use Rattle.nor_device.specs.Marks.{is_marked, covered}
use Rattle.nor_device.proofs.marked_flash.cover.Given as goal

-- what lies in the marked sectors so far is covered
abbrev pub invariant-loop-sector : goal.invariant-loop-sector
invariant-loop-sector l =
    l.bytes ≡ covered (λ s. nat_lt s l.sector && is_marked l.marks s) l.at l.initial.bytes
