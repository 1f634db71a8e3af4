use Rattle.std.proofs.Common.{◌<◌, arith, subst, sym}
use Rattle.std.proofs.lemmas.List.Elements.{All-from_get_or}
use Rattle.power_cut.specs.Update.{Opens}
use Rattle.duo_run.specs.Both.{HasTable}
use Rattle.duo_run.proofs.OpeningLemmas.{aimed_opens}
use Rattle.update_run.proofs.PacedLemmas.{paced_legs}
use Rattle.update_run.proofs.RunLemmas.{made_by, update_of}
use Rattle.update_run.proofs.running.make_update.Goals as goal

-- the flash has the size of one
pub chosen_device-device-requires-clause-size : goal.chosen_device-device-requires-clause-size
chosen_device-device-requires-clause-size g c = c.requires.begun.table.size

-- the device is ready
pub run_legs-requires-clause-ready : goal.run_legs-requires-clause-ready
run_legs-requires-clause-ready g c κs within = c.chosen_device-device.ensures.fresh.ready

-- the table and the layout are those of its flash
pub run_legs-requires-clause-table : goal.run_legs-requires-clause-table
run_legs-requires-clause-table g c κs within =
    subst (HasTable c.args.opening.table c.args.opening.layout)
    (sym c.chosen_device-device.ensures.fresh.bytes) c.requires.begun.table

-- an update of the application that runs
pub run_legs-requires-clause-opens : goal.run_legs-requires-clause-opens
run_legs-requires-clause-opens g c κs within =
    subst (λ bytes. Opens c.args.opening.layout bytes c.args.opening.aim c.args.image.now)
    (sym c.chosen_device-device.ensures.fresh.bytes)
    (aimed_opens c.args.opening.flash.items c.args.opening.table c.args.opening.layout
    c.args.opening.aim c.args.image.now c.requires.begun.table
    (All-from_get_or (λ b. b < 256) c.args.image.now 0 (λ i inside. omega (arith, c.type_inv.image i)))
    c.requires.begun.aims)

-- the update, by its legs and by what it left
pub returns-clause-update : goal.returns-clause-update
returns-clause-update g c =
    update_of c.whole_images_show_no_fault.ensures c.args.options.now c.args.opening
    c.args.image.now c.chosen_device-device.result c.requires.options c.requires.begun
    c.chosen_device-device.ensures.fresh
    (aimed_opens c.args.opening.flash.items c.args.opening.table c.args.opening.layout
    c.args.opening.aim c.args.image.now c.requires.begun.table
    (All-from_get_or (λ b. b < 256) c.args.image.now 0 (λ i inside. omega (arith, c.type_inv.image i)))
    c.requires.begun.aims)
    (omega (arith, c.len-few.ensures.exact, c.len-few.ensures.most)) c.run_legs.result
    (made_by c.args.options.now c.args.opening c.args.image.now c.chosen_device-device.result
    c.run_legs.result c.run_legs.ensures.trial c.run_legs.ensures.boots
    c.run_legs.ensures.after c.run_legs.ensures.installed)

-- and the pace was told of its legs
pub returns-clause-told : goal.returns-clause-told
returns-clause-told g c =
    paced_legs (g.P.Pace.told c.args.pace.now) c.args.options.now c.args.opening
    c.args.image.now c.chosen_device-device.result c.run_legs.result c.requires.begun
    c.chosen_device-device.ensures.fresh.bytes c.run_legs.ensures.told
