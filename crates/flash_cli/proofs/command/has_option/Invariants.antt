use Rattle.std.proofs.Common.{◌≡◌, length}
use Rattle.flash_cli.specs.Command.{has_option, words_of}
use Rattle.flash_cli.proofs.command.has_option.Given as goal

-- none of the options so far is this one
abbrev pub invariant-loop-left : goal.invariant-loop-left
invariant-loop-left l =
    has_option l.option (words_of l.left) ≡ has_option l.option (words_of l.words)

abbrev pub decreases-loop-left : goal.decreases-loop-left
decreases-loop-left l = length l.left
