use Rattle.std.proofs.Common.{◌≡◌, ◌*◌, ◌-◌, ◌∙◌, true, set, length, refl, ap, arith}
use Rattle.nor_device.specs.Flash.{erased}
use Rattle.nor_device.specs.Marks.{marked_as, as_read}
use Rattle.nor_device.proofs.MarksLemmas.{marked_as-none, marked_as-more, length-marked_as}
use Rattle.nor_device.proofs.ReadLemmas.{length-read, marked_erased}
use Rattle.nor_device.proofs.marked_flash.MarkedFlash.erase.Goals as goal

pub loop-sector-init : goal.loop-sector-init
loop-sector-init c = record {
  from = omega arith;
  stored = refl;
  marks = marked_as-none true c.args.first c.self.inside.marks;
}

-- a sector more
pub loop-sector-preserved : goal.loop-sector-preserved
loop-sector-preserved c = record {
  from = omega (arith, c.loop-sector.invariant.from);
  stored = c.loop-sector.invariant.stored;
  marks = c.set.ensures.exact
      ∙ ap (λ marks. set marks c.loop-sector.sector true) c.loop-sector.invariant.marks
      ∙ marked_as-more true c.args.first c.loop-sector.sector c.self.inside.marks
      c.loop-sector.invariant.from;
}

pub set-requires : goal.set-requires
set-requires c = record {
  inside = omega (
    arith,
    c.loop-sector-test.true,
    c.requires.inside,
    length-read c.self.inside _ c.self.view_is,
    c.self.invariant.most,
  );
}

-- no byte has moved, and there are as many marks
pub invariant_of-self : goal.invariant_of-self
invariant_of-self c =
    let begun = c.self.inside in
    let items = ap (λ vec. length vec.items) c.loop-sector.invariant.stored in
    record {
      whole = omega (arith, items, c.self.invariant.whole);
      most = omega (arith, items, c.self.invariant.most);
      marks = ap length c.loop-sector.invariant.marks
          ∙ length-marked_as true c.args.first c.loop-sector.sector begun.marks
          ∙ c.self.invariant.marks;
    }

-- what is marked reads as erased
pub returns-clause-bytes : goal.returns-clause-bytes
returns-clause-bytes c =
    let begun = c.self.inside in
    let stored = begun.stored.items in
    let long = length-read begun _ c.self.view_is in
    let last : c.loop-sector.sector ≡ c.args.last = grind arith in
    ap (λ marks. as_read marks c.loop-sector.self-inside.stored.items)
    (c.loop-sector.invariant.marks
    ∙ ap (λ last. marked_as true c.args.first last begun.marks) last)
    ∙ ap (λ vec. as_read (marked_as true c.args.first c.args.last begun.marks) vec.items)
    c.loop-sector.invariant.stored
    ∙ marked_erased begun.marks stored c.args.first c.args.last c.requires.order
    (omega (arith, c.requires.inside, long))
    (omega (arith, c.self.invariant.most, c.self.invariant.marks))
    ∙ ap (λ flash. erased flash.bytes (c.args.first * 4096) ((c.args.last - c.args.first) * 4096))
    c.self.view_is
