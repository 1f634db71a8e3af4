use Rattle.boot_run.proofs.StoredLemmas.{boots_after, entries_changed}
use Rattle.boot_run.proofs.laws.rewrites_are_read_back.Goals as goal

pub returns : goal.returns
returns c = record { entry = entries_changed; after = boots_after }
