use Rattle.std.proofs.Common.{◌∙◌, arith}
use Rattle.nor_device.proofs.CoverLemmas.{covered_sector}
use Rattle.nor_device.proofs.marked_flash.cover_sector.Goals as goal

-- the part of the sector that lies in the bytes
pub returns : goal.returns
returns c = record {
  exact = c.fill.ensures.exact
      ∙ covered_sector c.args.sector c.args.at c.min-start.result c.min-end.result c.args.bytes.now
      (grind arith) (grind arith);
}
