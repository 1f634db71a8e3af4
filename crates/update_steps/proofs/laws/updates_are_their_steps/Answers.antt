use Rattle.update_steps.proofs.SessionLemmas.{session_steps}
use Rattle.update_steps.proofs.StepLemmas.{bad_steps, count_steps, empty_steps, unmarked_steps}
use Rattle.update_steps.proofs.laws.updates_are_their_steps.Goals as goal

pub returns : goal.returns
returns c = let shown = c.whole_images_show_no_fault.ensures in record {
  empty = empty_steps;
  unmarked = unmarked_steps;
  faulty = bad_steps;
  whole = session_steps shown;
  count = count_steps shown;
}
