use Rattle.partition_table.specs.Table.{table_text}
use Rattle.partition_table.proofs.RowLemmas.{bytes-all}
use Rattle.partition_table.proofs.TableLemmas.{table_of-means, table_of-text, table_text-means, text_again}
use Rattle.partition_table.proofs.table.tables_are_their_texts.Goals as goal

-- what is written is read
pub returns-clause-written : goal.returns-clause-written
returns-clause-written c = λ flash rows few sized obeyed.
    table_of-text (table_text rows) flash rows (table_text-means flash rows few sized obeyed)

-- what was read is written
pub returns-clause-read : goal.returns-clause-read
returns-clause-read c = text_again

-- the answer is the rows exactly where they are those of the bytes
pub returns-clause-exact : goal.returns-clause-exact
returns-clause-exact c = λ bytes flash rows size small.
    (table_of-means bytes flash rows size (bytes-all bytes small), table_of-text bytes flash rows)
