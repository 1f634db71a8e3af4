use Rattle.update_run.proofs.UpdateLaws.{cut_reached, else_by_image, failure_reached}
use Rattle.update_run.proofs.laws.updates_end_in_their_chosen_step.Goals as goal

pub returns : goal.returns
returns c = record { cut = cut_reached; failure = failure_reached; image = else_by_image }
