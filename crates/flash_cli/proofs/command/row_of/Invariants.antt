use Rattle.std.proofs.Common.{◌≡◌, map, drop}
use Rattle.flash_cli.specs.Command.{row_of, shown_row}
use Rattle.flash_cli.proofs.command.row_of.Given as goal

-- none of the rows so far has the word
abbrev pub invariant-loop-row : goal.invariant-loop-row
invariant-loop-row l =
    row_of (map shown_row (drop l.row-index l.rows)) l.word ≡ row_of (map shown_row l.rows) l.word
