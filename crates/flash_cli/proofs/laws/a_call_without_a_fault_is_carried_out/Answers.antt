use Rattle.flash_cli.proofs.CallLaws.{faultless}
use Rattle.flash_cli.proofs.laws.a_call_without_a_fault_is_carried_out.Goals as goal

-- each other status has a cause that did not come
pub returns : goal.returns
returns c = record { ok = faultless }
