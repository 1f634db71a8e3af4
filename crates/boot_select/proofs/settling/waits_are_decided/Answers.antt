use Rattle.boot_select.proofs.SettledLemmas.{is_same-true, none-waits}
use Rattle.boot_select.proofs.settling.waits_are_decided.Goals as goal

pub returns : goal.returns
returns c = record { none = none-waits; same = is_same-true }
