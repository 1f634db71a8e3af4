use Rattle.boot_run.proofs.FrameLemmas.{stands_inside}
use Rattle.boot_run.proofs.start.app_on.Goals as goal

-- the partition of an application ends inside the device
pub verify_on-requires-clause-inside : goal.verify_on-requires-clause-inside
verify_on-requires-clause-inside g c =
    stands_inside _ _ (c.requires.placed.stands c.args.app c.place.result c.place.ensures.exact)
