use Rattle.std.proofs.Common.{◌≡◌, ◌≤◌, false}
use Rattle.nor_device.specs.Marks.{marked_as}
use Rattle.nor_device.proofs.marked_flash.MarkedFlash.settle_all.Given as goal

-- the sectors so far have no mark, and read as before
abbrev pub invariant-loop-sector : goal.invariant-loop-sector
invariant-loop-sector l = record {
  from : l.first ≤ l.sector;
  bytes : l.self.bytes ≡ l.fn.self.bytes;
  marks : l.self.marks ≡ marked_as false l.first l.sector l.fn.self.marks;
}
