-- What the words that compute say of two entries, in facts.
use Rattle.otadata.proofs.ChoiceLemmas.{active-none, active-first, active-second, active-lt}
use Rattle.otadata.proofs.choice.choices_are_decided.Goals as goal

pub returns-clause-none : goal.returns-clause-none
returns-clause-none c = active-none

pub returns-clause-first : goal.returns-clause-first
returns-clause-first c = active-first

pub returns-clause-second : goal.returns-clause-second
returns-clause-second c = active-second

pub returns-clause-within : goal.returns-clause-within
returns-clause-within c = active-lt
