use Rattle.std.proofs.Common.{◌≡◌, drop}
use Rattle.std.specs.List.{list_all}
use Rattle.flash_cli.specs.Command.{is_file_name, words_of}
use Rattle.flash_cli.proofs.command.are_file_names.Given as goal

-- each word so far can name a file
abbrev pub invariant-loop-word : goal.invariant-loop-word
invariant-loop-word l =
    list_all is_file_name (words_of (drop l.word-index l.words)) ≡ list_all is_file_name (words_of l.words)
