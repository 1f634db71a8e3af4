use Rattle.flash_cli.proofs.StatusLaws.{status_flash}
use Rattle.flash_cli.proofs.laws.done_updates_leave_one_flash.Goals as goal

pub returns : goal.returns
returns c = record { flash = status_flash }
