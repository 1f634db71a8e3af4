use Rattle.update_steps.proofs.SessionLemmas.{left_layout, left_pair, left_some, session_before, session_boots, session_done}
use Rattle.update_steps.proofs.laws.lost_updates_boot_old_or_new.Goals as goal

pub returns : goal.returns
returns c = let shown = c.whole_images_show_no_fault.ensures in record {
  before = session_before shown;
  boots = session_boots shown;
  some = λ layout flash left aim old new opening.
      left_some layout flash aim old new opening shown left;
  pair = λ layout flash left aim old new opening.
      left_pair layout flash aim old new opening shown left;
  layout = λ layout flash left aim old new opening.
      left_layout layout flash aim old new opening shown left;
  done = λ layout flash aim old new row opening is.
      session_done shown layout flash flash aim old new row opening is;
}
