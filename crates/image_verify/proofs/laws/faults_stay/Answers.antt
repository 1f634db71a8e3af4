use Rattle.image_verify.proofs.Longer.{early_stays, bad_stays}
use Rattle.image_verify.proofs.laws.faults_stay.Goals as goal

pub returns-clause-early : goal.returns-clause-early
returns-clause-early c = early_stays

pub returns-clause-bad : goal.returns-clause-bad
returns-clause-bad c = bad_stays
