use Rattle.rollback.proofs.EntriesLemmas.{boot_restates}
use Rattle.rollback.proofs.VerdictLemmas.{confirm-some, reject-ok}
use Rattle.rollback.proofs.laws.rewrites_change_states.Goals as goal

pub returns : goal.returns
returns c = record { boot = boot_restates; confirm = confirm-some; reject = reject-ok }
