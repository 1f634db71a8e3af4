-- The entry is counted where it is written.
use Rattle.std.proofs.Common.{◌∙◌, ap}
use Rattle.ota_session.specs.Stages.{image_of}
use Rattle.flash_ops.specs.Told.{count_behind}
use Rattle.duo_run.proofs.DrivingLemmas.{sealed_ops}
use Rattle.duo_run.proofs.PacedLemmas.{not_sealed_ops}
use Rattle.duo_run.proofs.driver.seal.Goals as goal

pub returns-in-Err-clause-ops : goal.returns-in-Err-clause-ops
returns-in-Err-clause-ops g c =
    rw c.unsealed.ensures.exact
    (not_sealed_ops c.args.ota (image_of c.args.ota.core.base) c.in-Err.back.no c.in-Err.back.core
    c.args.beat.now.ops c.in-Err.ensures.err)

pub returns-in-Ok-set_boot-clause-ops : goal.returns-in-Ok-set_boot-clause-ops
returns-in-Ok-set_boot-clause-ops g c =
    c.in-Ok-set_boot.ensures.ops
    ∙ ap (count_behind c.args.beat.now.ops)
    (sealed_ops c.args.beat.now.probe c.args.ota c.in-Ok.sealed c.in-Ok.ensures.ok)
