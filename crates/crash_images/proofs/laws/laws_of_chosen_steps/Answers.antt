use Rattle.crash_images.proofs.CutLaws.{one_end, no_end_after}
use Rattle.crash_images.proofs.laws.laws_of_chosen_steps.Goals as goal

-- each is the lemma of its name
pub returns-clause-one : goal.returns-clause-one
returns-clause-one c = one_end

pub returns-clause-last : goal.returns-clause-last
returns-clause-last c = no_end_after
