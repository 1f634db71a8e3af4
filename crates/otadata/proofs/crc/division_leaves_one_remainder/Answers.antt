-- Long division finds a remainder, and there is no other.
use Rattle.otadata.proofs.PolynomialLemmas.{remainder-exists, remainder-unique}
use Rattle.otadata.proofs.crc.division_leaves_one_remainder.Goals as goal

pub returns-clause-exists : goal.returns-clause-exists
returns-clause-exists c = remainder-exists

pub returns-clause-unique : goal.returns-clause-unique
returns-clause-unique c = remainder-unique
