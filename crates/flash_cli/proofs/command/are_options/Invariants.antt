use Rattle.std.proofs.Common.{◌≡◌, length, map}
use Rattle.flash_cli.specs.Command.{are_options, words_of}
use Rattle.flash_cli.proofs.command.are_options.Given as goal

-- the options so far are known, and come once
abbrev pub invariant-loop-left : goal.invariant-loop-left
invariant-loop-left l =
    are_options (map (λ option. option.now) l.options) (words_of l.left)
    ≡ are_options (map (λ option. option.now) l.options) (words_of l.words)

abbrev pub decreases-loop-left : goal.decreases-loop-left
decreases-loop-left l = length l.left
