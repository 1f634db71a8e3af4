use Rattle.std.proofs.Common.{◌<◌, arith, subst, sym}
use Rattle.std.proofs.lemmas.List.Elements.{All-from_get_or}
use Rattle.power_cut.specs.Update.{Opens}
use Rattle.duo_run.specs.Both.{HasTable}
use Rattle.duo_run.proofs.OpeningLemmas.{aimed_opens}
use Rattle.update_run.proofs.SweepLemmas.{swept_so, unswept_so}
use Rattle.update_run.proofs.sweeping.make_sweep.Goals as goal

-- the table and the layout are those of the flash
pub cut_legs-requires-clause-table : goal.cut_legs-requires-clause-table
cut_legs-requires-clause-table g c κs within =
    subst (HasTable c.args.opening.now.table c.args.opening.now.layout)
    (sym c.deref.ensures.value) c.requires.begun.table

-- an update of the application that runs
pub cut_legs-requires-clause-opens : goal.cut_legs-requires-clause-opens
cut_legs-requires-clause-opens g c κs within =
    subst (λ bytes. Opens c.args.opening.now.layout bytes c.args.opening.now.aim c.args.image.now)
    (sym c.deref.ensures.value)
    (aimed_opens c.args.opening.now.flash.items c.args.opening.now.table
    c.args.opening.now.layout c.args.opening.now.aim c.args.image.now c.requires.begun.table
    (All-from_get_or (λ b. b < 256) c.args.image.now 0 (λ i inside. omega (arith, c.type_inv.image i)))
    c.requires.begun.aims)

-- the sweep, by its legs
pub returns-clause-swept : goal.returns-clause-swept
returns-clause-swept g c =
    swept_so c.args.tear c.args.opening.now c.args.image.now c.requires.begun c.deref.result.now
    c.deref.ensures.value c.cut_legs.result c.whole_images_show_no_fault.ensures
    (aimed_opens c.args.opening.now.flash.items c.args.opening.now.table
    c.args.opening.now.layout c.args.opening.now.aim c.args.image.now c.requires.begun.table
    (All-from_get_or (λ b. b < 256) c.args.image.now 0 (λ i inside. omega (arith, c.type_inv.image i)))
    c.requires.begun.aims)
    (omega (arith, c.len-few.ensures.exact, c.len-few.ensures.most)) c.cut_legs.ensures.sweep
    c.cut_legs.ensures.whole

-- or how its session ended
pub returns-clause-refused : goal.returns-clause-refused
returns-clause-refused g c =
    unswept_so c.args.tear c.args.opening.now c.args.image.now c.requires.begun c.deref.result.now
    c.deref.ensures.value c.cut_legs.result c.cut_legs.ensures.refused
