use Rattle.crash_images.proofs.laws.device_goes_on.Goals as goal

-- the law of the trait
pub returns : goal.returns
returns g c = record { goes_on = g.met.D.Crash.goes_on (g.D.Nor.setting c.args.device.now) }
