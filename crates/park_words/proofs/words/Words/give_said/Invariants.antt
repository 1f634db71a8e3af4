use Rattle.park_words.proofs.words.Words.give_said.Given as goal

abbrev pub ghost-give_turn : goal.ghost-give_turn
ghost-give_turn g a = g.work
