use Rattle.flash_cli.proofs.StatusLaws.{status_cut, status_else, status_failure}
use Rattle.flash_cli.proofs.laws.statuses_tell_the_chosen_step.Goals as goal

pub returns : goal.returns
returns c = record { cut = status_cut; failure = status_failure; image = status_else }
