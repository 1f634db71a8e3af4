use Rattle.park_words.proofs.tests.held_at_rest.Given as goal

abbrev pub ghost-new : goal.ghost-new
ghost-new a = 0
