use Rattle.std.proofs.Common.{◌∙◌, sym, ap, arith, eqb}
use Rattle.nor_device.specs.Marks.{is_marked, covered}
use Rattle.nor_device.proofs.MarksLemmas.{none_from_count}
use Rattle.nor_device.proofs.CoverLemmas.{covered_none, covered_before, covered_more, covered_skip, covered_all}
use Rattle.nor_device.proofs.marked_flash.cover.Goals.{then-has, else-has}
use Rattle.nor_device.proofs.marked_flash.cover.Goals as goal

-- without marks nothing is covered
pub returns-then-count-eq0 : goal.returns-then-count-eq0
returns-then-count-eq0 c = record {
  exact = covered_none (is_marked c.args.marks.now) c.args.at c.args.bytes.now
      (λ k inside. none_from_count c.args.marks.now _ (sym c.count.ensures.exact ∙ c.if-count-eq0.true));
}

pub loop-sector-init : goal.loop-sector-init
loop-sector-init c = covered_before (is_marked c.args.marks.now) c.args.at c.args.bytes.now

-- a sector more
pub loop-sector-preserved : goal.loop-sector-preserved
loop-sector-preserved c = elim c.if-has.branch [
  | then-has w ↦ w.bytes-is ∙ w.cover_sector.ensures.exact
      ∙ ap (covered (λ s. eqb s c.loop-sector.sector) c.args.at) c.loop-sector.invariant
      ∙ covered_more (is_marked c.args.marks.now) c.loop-sector.sector c.args.at c.args.bytes.now
      (sym c.has.ensures.exact ∙ w.if-has.true)
  | else-has w ↦ w.bytes-is ∙ c.loop-sector.invariant
      ∙ covered_skip (is_marked c.args.marks.now) c.loop-sector.sector c.args.at c.args.bytes.now
      (sym c.has.ensures.exact ∙ w.if-has.false)
]

-- the last sector holds the last byte
pub returns : goal.returns
returns c = record {
  exact = c.loop-sector.invariant
      ∙ covered_all (is_marked c.args.marks.now) c.loop-sector.sector c.args.at c.args.bytes.now
      (grind arith);
}
