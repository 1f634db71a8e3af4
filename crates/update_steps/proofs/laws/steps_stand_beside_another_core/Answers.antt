use Rattle.update_steps.proofs.BesideLemmas.{beside_first, beside_made, beside_other, beside_torn}
use Rattle.update_steps.proofs.laws.steps_stand_beside_another_core.Goals as goal

pub returns : goal.returns
returns c = record {
  first = beside_first;
  torn = beside_torn;
  made = beside_made;
  other = beside_other;
}
