use Rattle.std.proofs.Common.{[], ◌∷◌}
use Rattle.park_words.specs.Told.{items_alone}
use Rattle.park_words.proofs.tests.give_added.Given as goal

abbrev pub ghost-give_said : goal.ghost-give_said
ghost-give_said a = items_alone (a._said.now ∷ [])
