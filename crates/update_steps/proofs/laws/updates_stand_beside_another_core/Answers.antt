use Rattle.update_steps.proofs.SparedLemmas.{beside_before, beside_boots, beside_done, beside_layout, beside_pair, beside_some}
use Rattle.update_steps.proofs.laws.updates_stand_beside_another_core.Goals as goal

pub returns : goal.returns
returns c = let shown = c.whole_images_show_no_fault.ensures in record {
  before = beside_before shown;
  boots = beside_boots shown;
  some = beside_some shown;
  pair = beside_pair shown;
  layout = beside_layout shown;
  done = beside_done shown;
}
