use Rattle.nor_device.proofs.MarksLemmas.{none_marked}
use Rattle.nor_device.proofs.MarkLaws.{erase_counts, erase_again, program_counts, program_else}
use Rattle.nor_device.proofs.laws.laws_of_marks.Goals as goal

-- each is the lemma of its name
pub returns-clause-none : goal.returns-clause-none
returns-clause-none c = none_marked

pub returns-clause-erase : goal.returns-clause-erase
returns-clause-erase c = erase_counts

pub returns-clause-again : goal.returns-clause-again
returns-clause-again c = erase_again

pub returns-clause-program : goal.returns-clause-program
returns-clause-program c = program_counts

pub returns-clause-others : goal.returns-clause-others
returns-clause-others c = program_else
