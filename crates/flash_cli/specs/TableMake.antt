-- What the command `table-make CSV OUT` comes to.
use Rattle.std.specs.Prelude.{ℕ, List, [], ◌∷◌, Result, Ok, Err}
use Rattle.partition_table.specs.declared.row.Row.{Row}
use Rattle.partition_table.specs.Table.{table_text}
use Rattle.part_csv.specs.declared.refusal.CsvNo.{CsvNo}
use Rattle.part_csv.specs.declared.refusal.CsvNo.TheVariants as no_table
use Rattle.part_csv.specs.declared.refusal.CsvWhy.TheVariants as why
use Rattle.part_csv.specs.Source.{table_of_source}
use Rattle.flash_text.specs.declared.refusal.Refusal.{Refusal}
use Rattle.flash_text.specs.declared.refusal.Refusal.TheVariants.{Table, Csv}
use Rattle.flash_cli.specs.Answer.{Answer}
use Rattle.flash_text.specs.TableText.{rows_line}

-- the refusal of a source. That memory ran out is none of a source's, and what stands there plays
-- no part
abbrev pub csv_refusal : CsvNo → Refusal
csv_refusal (no_table.At number reason) = Csv number reason
csv_refusal (no_table.Rules bad) = Table bad
csv_refusal no_table.Memory = Csv 0 why.Fields

-- the answer of the command with the rows of a source: the file with their table, and how many they
-- are
abbrev pub answer_of_rows : List ℕ → Result (List Row) CsvNo → Result Answer Refusal
answer_of_rows out (Ok rows) = Ok (record { text = rows_line rows; puts = (out, table_text rows) ∷ [] })
answer_of_rows out (Err problem) = Err (csv_refusal problem)

-- what the command comes to on a source, for a flash of 32 MiB
abbrev pub table_make_answer : List ℕ → List ℕ → Result Answer Refusal
table_make_answer out csv = answer_of_rows out (table_of_source csv 33554432)
