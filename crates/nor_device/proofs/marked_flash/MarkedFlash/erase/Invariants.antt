use Rattle.std.proofs.Common.{◌≡◌, ◌≤◌, true}
use Rattle.nor_device.specs.Marks.{marked_as}
use Rattle.nor_device.proofs.marked_flash.MarkedFlash.erase.Given as goal

-- the sectors so far are marked, and no byte has moved
abbrev pub invariant-loop-sector : goal.invariant-loop-sector
invariant-loop-sector l = let begun = l.initial.self-inside in record {
  from : l.first ≤ l.sector;
  stored : l.self-inside.stored ≡ begun.stored;
  marks : l.self-inside.marks ≡ marked_as true l.first l.sector begun.marks;
}
