use Rattle.update_run.proofs.MomentLaws.{sweeps_boot_new, updates_boot_new}
use Rattle.update_run.proofs.laws.once_confirmed_the_new_application_boots.Goals as goal

pub returns : goal.returns
returns c = record { update = updates_boot_new; sweep = sweeps_boot_new }
