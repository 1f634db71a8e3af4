-- What the command `table-show FILE` comes to.
use Rattle.std.specs.Prelude.{ℕ, ◌==◌, List, length, Result, Ok, Err, if◌then◌else◌}
use Rattle.partition_table.specs.declared.row.Row.{Row}
use Rattle.partition_table.specs.declared.bad.TableBad.{TableBad}
use Rattle.partition_table.specs.Table.{table_of}
use Rattle.flash_text.specs.declared.refusal.Refusal.{Refusal}
use Rattle.flash_text.specs.declared.refusal.Refusal.TheVariants.{TableLength, Table}
use Rattle.flash_cli.specs.Answer.{Answer, text_only}
use Rattle.flash_text.specs.TableText.{row_lines}

-- a refusal of the table as one of the command
abbrev pub rows_or_refusal : Result (List Row) TableBad → Result (List Row) Refusal
rows_or_refusal (Ok rows) = Ok rows
rows_or_refusal (Err why) = Err (Table why)

-- the answer of the command with the rows of a table file
abbrev pub answer_of_file : Result (List Row) Refusal → Result Answer Refusal
answer_of_file (Ok rows) = Ok (text_only (row_lines rows))
answer_of_file (Err why) = Err why

-- the rows of a table file for a flash of this size, or why it has none
unfoldable pub file_rows : List ℕ → ℕ → Result (List Row) Refusal
file_rows bytes flash =
    if length bytes == 3072 then rows_or_refusal (table_of bytes flash)
    else Err (TableLength (length bytes))

-- what the command comes to on a table file, for a flash of 32 MiB
abbrev pub table_show_answer : List ℕ → Result Answer Refusal
table_show_answer bytes = answer_of_file (file_rows bytes 33554432)
