use Rattle.crash_images.proofs.FlakyLaws.{fails_ends, fails_tears, fails_refuses}
use Rattle.crash_images.proofs.laws.setting_of_flaky_nor_over_ram_nor.Goals as goal

-- a device in memory refuses nothing
pub returns-clause-ends : goal.returns-clause-ends
returns-clause-ends c = fails_ends

pub returns-clause-tears : goal.returns-clause-tears
returns-clause-tears c = fails_tears

pub returns-clause-refuses : goal.returns-clause-refuses
returns-clause-refuses c = fails_refuses

pub returns-clause-stops : goal.returns-clause-stops
returns-clause-stops c = λ set n never. never
