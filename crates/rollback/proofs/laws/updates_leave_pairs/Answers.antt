use Rattle.rollback.proofs.UpdateLemmas.{behind_pair, data_boots, new_boots, start_pair}
use Rattle.rollback.proofs.laws.updates_leave_pairs.Goals as goal

pub returns : goal.returns
returns c = record { before = data_boots; start = start_pair; behind = behind_pair; done = new_boots }
