use Rattle.update_run.specs.Opening.{opening_with}
use Rattle.flash_cli.proofs.ReadableLemmas.{trial_readable}
use Rattle.flash_cli.proofs.updating.update_of.Goals as goal

-- the bytes of each fetch are in the journals of an update
pub returns-in-Ok-make_update-clause-readable : goal.returns-in-Ok-make_update-clause-readable
returns-in-Ok-make_update-clause-readable g c =
    trial_readable c.args.options.now (opening_with c.args.image.now c.in-Ok.opening)
    c.in-Ok-make_update.trial c.in-Ok-make_update.ensures.update
