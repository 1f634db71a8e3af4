use Rattle.park_words.proofs.tests.two_threads.Given as goal

abbrev pub ghost-new : goal.ghost-new
ghost-new g a = 0
