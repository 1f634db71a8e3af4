use Rattle.flash_cli.proofs.image_make.make_planned.Goals as goal

-- a part was not read
pub returns-in-Err-clause-exact : goal.returns-in-Err-clause-exact
returns-in-Err-clause-exact g c = c.in-Err.ensures.cause _
