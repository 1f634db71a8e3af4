use Rattle.crash_images.proofs.laws.power_loss_leaves.Goals as goal

-- the laws of the trait
pub returns-clause-idle : goal.returns-clause-idle
returns-clause-idle g c = g.met.D.Crash.idle_leaves c.args.device.now

pub returns-clause-running : goal.returns-clause-running
returns-clause-running g c = g.met.D.Crash.torn_leaves c.args.device.now
