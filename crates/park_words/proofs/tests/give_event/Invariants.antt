use Rattle.park_words.specs.Told.{event_alone}
use Rattle.park_words.proofs.tests.give_event.Given as goal

abbrev pub ghost-give_said : goal.ghost-give_said
ghost-give_said g a = event_alone a._said.now
