use Rattle.std.proofs.Common.{◌≡◌, drop, map}
use Rattle.std.specs.List.{list_any}
use Rattle.std.specs.Str.{bytes_eq}
use Rattle.flash_cli.proofs.command.is_one_of.Given as goal

-- none of the options so far is the word
abbrev pub invariant-loop-option : goal.invariant-loop-option
invariant-loop-option l =
    list_any (bytes_eq l.word) (map (λ option. option.now) (drop l.option-index l.options))
    ≡ list_any (bytes_eq l.word) (map (λ option. option.now) l.options)
