use Rattle.park_words.proofs.Stories.{turns_are_of_one_core}
use Rattle.park_words.proofs.rule.every_turn_is_of_one_core.Goals as goal

pub returns : goal.returns
returns c = turns_are_of_one_core
