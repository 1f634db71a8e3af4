use Rattle.update_steps.proofs.StepLemmas.{aimed_opens}
use Rattle.update_steps.proofs.laws.aimed_updates_open.Goals as goal

pub returns : goal.returns
returns c = aimed_opens
