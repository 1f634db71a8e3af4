use Rattle.std.proofs.Common.{Some}
use Rattle.park_words.proofs.words.Words.new.Given as goal

abbrev pub ghosts-deal : goal.ghosts-deal
ghosts-deal g a = record { base = Some g.base }

abbrev pub ghost-resting : goal.ghost-resting
ghost-resting g a = g.base
