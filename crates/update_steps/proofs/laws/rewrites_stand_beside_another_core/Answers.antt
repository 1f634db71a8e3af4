use Rattle.update_steps.proofs.VerdictLemmas.{beside_all, beside_still, beside_verdict}
use Rattle.update_steps.proofs.laws.rewrites_stand_beside_another_core.Goals as goal

pub returns : goal.returns
returns c = record { verdict = beside_verdict; some = beside_still; done = beside_all }
