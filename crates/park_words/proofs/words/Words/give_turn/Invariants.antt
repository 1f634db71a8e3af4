use Rattle.park_words.proofs.words.Words.give_turn.Given as goal

abbrev pub ghosts-give : goal.ghosts-give
ghosts-give g a = record { work = g.work }
