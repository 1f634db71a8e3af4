use Rattle.update_steps.proofs.TableLemmas.{flash_placed, layout_few, layout_placed, layout_some, table_fits, table_opens}
use Rattle.update_steps.proofs.laws.tables_open_updates.Goals as goal

-- by the rows of the table
pub returns : goal.returns
returns c = record {
  fits = table_fits;
  placed = layout_placed;
  some = layout_some;
  few = layout_few;
  flash = flash_placed;
  opens = table_opens;
}
