use Rattle.park_words.specs.Told.{no_work}
use Rattle.park_words.proofs.tests.give_nothing.Given as goal

abbrev pub ghost-give_turn : goal.ghost-give_turn
ghost-give_turn g a = no_work
