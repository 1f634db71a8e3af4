use Rattle.std.proofs.Common.{◌<◌, arith}
use Rattle.std.proofs.lemmas.List.Elements.{All-from_get_or}
use Rattle.duo_run.proofs.OpeningLemmas.{aimed_opens}
use Rattle.duo_run.proofs.leg_tests.update_of.Goals as goal

-- an update of the application that runs
pub legs_of-requires-clause-opens : goal.legs_of-requires-clause-opens
legs_of-requires-clause-opens g c κs within =
    aimed_opens c.args.opening.dev.inner.bytes c.args.opening.table c.args.opening.layout
    c.args.opening.aim c.args.image.now c.requires.table
    (All-from_get_or (λ b. b < 256) c.args.image.now 0 (λ i inside. omega (arith, c.type_inv.image i)))
    c.requires.aims
