-- The lines that the program prints of its own: what a flash chooses and boots, and how it is
-- called.
use Rattle.std.specs.Prelude.{List, ℕ, ◌++◌, codes}
use Rattle.flash_text.specs.Text.{entry_line, names_line}
use Rattle.flash_text.specs.BootText.{boots_line}
use Rattle.flash_cli.specs.declared.choice.Choice.{Choice}
use Rattle.flash_cli.specs.Command.{rows, joined}

-- the lines of a choice: both entries, the application that they name, and the one that boots
unfoldable pub choice_text : Choice → List ℕ
choice_text choice =
    entry_line 0 choice.first ++ entry_line 1 choice.second ++ names_line choice.app
    ++ boots_line choice.boots choice.length

-- the line that says how the program is called: the words of the table
unfoldable pub usage_line : List ℕ
usage_line = codes "usage: flash_cli " ++ joined rows ++ codes "\n"
