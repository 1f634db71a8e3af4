use Rattle.std.proofs.Common.{◌∙◌, false, set, refl, ap, arith}
use Rattle.nor_device.proofs.MarksLemmas.{marked_as-none, marked_as-more}
use Rattle.nor_device.proofs.marked_flash.MarkedFlash.settle_all.Goals as goal

pub loop-sector-init : goal.loop-sector-init
loop-sector-init c = record {
  from = omega arith;
  bytes = refl;
  marks = marked_as-none false c.args.first c.args.self.now.marks;
}

-- a sector more
pub loop-sector-preserved : goal.loop-sector-preserved
loop-sector-preserved c = record {
  from = omega (arith, c.loop-sector.invariant.from);
  bytes = c.settle.ensures.bytes ∙ c.loop-sector.invariant.bytes;
  marks = c.settle.ensures.marks
      ∙ ap (λ marks. set marks c.loop-sector.sector false) c.loop-sector.invariant.marks
      ∙ marked_as-more false c.args.first c.loop-sector.sector c.args.self.now.marks
      c.loop-sector.invariant.from;
}
