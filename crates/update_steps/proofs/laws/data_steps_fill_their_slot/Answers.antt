use Rattle.partition_table.specs.declared.app.App.TheVariants.{Ota}
use Rattle.update_steps.proofs.DataLemmas.{data_held, left_entries, left_others}
use Rattle.update_steps.proofs.laws.data_steps_fill_their_slot.Goals as goal

pub returns : goal.returns
returns c = record {
  held = λ layout flash image slot. data_held layout flash image (Ota slot);
  entries = λ layout flash left image slot. left_entries layout flash left image (Ota slot);
  images = λ layout flash left image slot row other placed is fits apart.
      left_others layout flash left image (Ota slot) other row placed is fits apart;
}
