use Rattle.partition_table.proofs.FirstLemmas.{least}
use Rattle.partition_table.proofs.RuleLemmas.{fits, fits_none}
use Rattle.partition_table.proofs.rules.rules_are_decided.Goals as goal

-- no rule is broken exactly where all are obeyed
pub returns-clause-fits : goal.returns-clause-fits
returns-clause-fits c = λ flash rows. (fits flash rows, fits_none flash rows)

-- the pair that is told is the first
pub returns-clause-least : goal.returns-clause-least
returns-clause-least c = λ meets rows a b is. least meets rows a b is
