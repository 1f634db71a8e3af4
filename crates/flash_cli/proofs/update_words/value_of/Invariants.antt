use Rattle.std.proofs.Common.{◌≡◌, length}
use Rattle.flash_cli.specs.Command.{words_of}
use Rattle.flash_cli.specs.UpdateWords.{value_of}
use Rattle.flash_cli.proofs.update_words.value_of.Given as goal

-- none of the options so far is this one
abbrev pub invariant-loop-left : goal.invariant-loop-left
invariant-loop-left l = value_of l.option (words_of l.left) ≡ value_of l.option (words_of l.words)

abbrev pub decreases-loop-left : goal.decreases-loop-left
decreases-loop-left l = length l.left
