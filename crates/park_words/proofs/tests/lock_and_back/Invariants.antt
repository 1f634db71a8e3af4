use Rattle.park_words.proofs.tests.lock_and_back.Given as goal

abbrev pub ghost-new : goal.ghost-new
ghost-new a = 0
