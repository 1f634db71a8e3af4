use Rattle.crash_images.proofs.CutLaws.{chosen_ends, chosen_tears, chosen_refuses}
use Rattle.crash_images.proofs.laws.setting_of_cut_nor_over_ram_nor.Goals as goal

-- a device in memory refuses nothing
pub returns-clause-ends : goal.returns-clause-ends
returns-clause-ends c = chosen_ends _ _ (λ set n end is. is) (λ set n why never. never)

pub returns-clause-tears : goal.returns-clause-tears
returns-clause-tears c = chosen_tears _ _ (λ set n end is. is) (λ set n why never. never)

pub returns-clause-refuses : goal.returns-clause-refuses
returns-clause-refuses c = chosen_refuses _ _ (λ set n end is. is) (λ set n why never. never)
