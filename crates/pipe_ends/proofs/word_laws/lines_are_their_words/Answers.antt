use Rattle.pipe_ends.proofs.SplitLemmas.{blank_first, word_ended, word_last}
use Rattle.pipe_ends.proofs.word_laws.lines_are_their_words.Goals as goal

pub returns-clause-blank : goal.returns-clause-blank
returns-clause-blank c = blank_first

pub returns-clause-ended : goal.returns-clause-ended
returns-clause-ended c = word_ended

pub returns-clause-last : goal.returns-clause-last
returns-clause-last c = word_last
