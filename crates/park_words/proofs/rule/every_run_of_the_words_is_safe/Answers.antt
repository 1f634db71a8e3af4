use Rattle.park_words.proofs.Stories.{stories_are_safe}
use Rattle.park_words.proofs.rule.every_run_of_the_words_is_safe.Goals as goal

pub returns : goal.returns
returns c = stories_are_safe
