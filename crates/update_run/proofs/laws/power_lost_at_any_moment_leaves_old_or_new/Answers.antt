use Rattle.update_run.proofs.MomentLaws.{sweeps_keep_booting, updates_keep_booting}
use Rattle.update_run.proofs.laws.power_lost_at_any_moment_leaves_old_or_new.Goals as goal

pub returns : goal.returns
returns c = record { update = updates_keep_booting; sweep = sweeps_keep_booting }
