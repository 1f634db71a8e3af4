use Rattle.update_run.proofs.opening.layout_by.Goals as goal

-- the rows obey the rules of a flash of this size
pub returns-in-Ok-clause-placed : goal.returns-in-Ok-clause-placed
returns-in-Ok-clause-placed c = c.in-Ok.ensures.placed c.args.size c.requires.fits
