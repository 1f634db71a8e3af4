use Rattle.pipe_ends.proofs.SplitLemmas.{line_ended, line_last, return_goes}
use Rattle.pipe_ends.proofs.word_laws.texts_are_their_lines.Goals as goal

pub returns-clause-ended : goal.returns-clause-ended
returns-clause-ended c = line_ended

pub returns-clause-last : goal.returns-clause-last
returns-clause-last c = line_last

pub returns-clause-carriage : goal.returns-clause-carriage
returns-clause-carriage c = return_goes
