use Rattle.flash_cli.proofs.CallLaws.{determined}
use Rattle.flash_cli.proofs.laws.told_files_determine_a_call.Goals as goal

-- there is one outcome in told files
pub returns : goal.returns
returns c = record { exact = determined }
