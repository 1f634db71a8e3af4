use Rattle.std.proofs.Common.{arith, ap, length, [], ◌∷◌, ◌∙◌}
use Rattle.std.proofs.lemmas.List.{length-append}
use Rattle.image_maker.specs.Plan.{part_names}
use Rattle.flash_cli.proofs.PartLemmas.{as_many, not_read, read_more}
use Rattle.flash_cli.proofs.image_make.needed_parts.Goals as goal

-- the file of this number was not read
pub returns-in-Err-clause-cause : goal.returns-in-Err-clause-cause
returns-in-Err-clause-cause g c =
    let all = as_many c.args.plan.now in
    let below = c.loop-i-test.true in
    let end = c.parts-i-end.ensures.exact in
    not_read (g.S.Store.files c.args.store.now) (g.S.Store.files c.loop-i.store) (part_names c.args.plan.now)
    c.loop-i.i c.part_name.result.now c.loop-i.parts.items (g.S.Store.faults c.args.store.now)
    (g.S.Store.faults c.loop-i.store) (g.S.Store.faults c.needed_file.new.store) c.in-Err.error
    (omega (arith, all, below, end)) c.part_name.ensures.exact c.loop-i.invariant.same
    c.loop-i.invariant.later c.loop-i.invariant.reads c.in-Err.ensures.cause

-- one more file was read
pub loop-i-preserved : goal.loop-i-preserved
loop-i-preserved g c =
    let all = as_many c.args.plan.now in
    let below = c.loop-i-test.true in
    let end = c.parts-i-end.ensures.exact in
    let grown = c.in_ok-keep-in-Ok.ensures.ok in
    record {
      reads = read_more (g.S.Store.files c.args.store.now) (g.S.Store.files c.loop-i.store)
          (part_names c.args.plan.now) c.loop-i.i c.part_name.result.now c.loop-i.parts.items
          c.keep.new.files.items c.in-Ok.part (omega (arith, all, below, end)) c.part_name.ensures.exact
          c.loop-i.invariant.same c.in-Ok.ensures.ok grown c.loop-i.invariant.reads;
      each = omega (arith, ap length grown, length-append c.loop-i.parts.items (c.in-Ok.part ∷ []), c.loop-i.invariant.each);
      same = c.in-Ok.ensures.same ∙ c.loop-i.invariant.same;
      later = omega (arith, c.in-Ok.ensures.later, c.loop-i.invariant.later);
    }
