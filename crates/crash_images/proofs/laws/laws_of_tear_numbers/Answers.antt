use Rattle.crash_images.proofs.TearLaws.{tear_is_torn, torn_by_inside, torn_by_outside}
use Rattle.crash_images.proofs.laws.laws_of_tear_numbers.Goals as goal

-- each is the lemma of its name
pub returns-clause-torn : goal.returns-clause-torn
returns-clause-torn c = tear_is_torn

pub returns-clause-inside : goal.returns-clause-inside
returns-clause-inside c = torn_by_inside

pub returns-clause-outside : goal.returns-clause-outside
returns-clause-outside c = torn_by_outside
