use Rattle.nor_device.proofs.EraseLaws.{applied_erase, torn_erase}
use Rattle.nor_device.proofs.laws.laws_of_erases.Goals as goal

-- each is the lemma of its name
pub returns-clause-made : goal.returns-clause-made
returns-clause-made c = applied_erase

pub returns-clause-torn : goal.returns-clause-torn
returns-clause-torn c = torn_erase
