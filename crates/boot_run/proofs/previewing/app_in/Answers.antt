use Rattle.boot_run.proofs.FrameLemmas.{stands_inside}
use Rattle.boot_run.proofs.previewing.app_in.Goals as goal

-- the partition of an application ends inside the flash
pub verify_in-requires-clause-inside : goal.verify_in-requires-clause-inside
verify_in-requires-clause-inside c =
    stands_inside _ _ (c.requires.placed.stands c.args.app c.place.result c.place.ensures.exact)
