use Rattle.flash_cli.proofs.PartLemmas.{refused_plan}
use Rattle.flash_cli.proofs.image_make.make_of_text.Goals as goal

-- the text means this plan
pub returns-in-Ok-clause-exact : goal.returns-in-Ok-clause-exact
returns-in-Ok-clause-exact g c = rw (← c.in-Ok.ensures.exact) c.make_planned.ensures.exact

-- it means none
pub returns-in-Err-clause-exact : goal.returns-in-Err-clause-exact
returns-in-Err-clause-exact g c =
    refused_plan _ _ _ c.in-Err.why _ _ _ c.in-Err.ensures.exact c.plan_error.ensures.exact
