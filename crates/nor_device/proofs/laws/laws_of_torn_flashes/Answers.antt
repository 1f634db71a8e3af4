use Rattle.nor_device.proofs.TornLaws.{torn_self, torn_applied, torn_twice, torn_small}
use Rattle.nor_device.proofs.laws.laws_of_torn_flashes.Goals as goal

-- each is the lemma of its name
pub returns-clause-not_begun : goal.returns-clause-not_begun
returns-clause-not_begun c = torn_self

pub returns-clause-made : goal.returns-clause-made
returns-clause-made c = torn_applied

pub returns-clause-twice : goal.returns-clause-twice
returns-clause-twice c = torn_twice

pub returns-clause-bytes : goal.returns-clause-bytes
returns-clause-bytes c = torn_small
