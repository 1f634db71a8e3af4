use Rattle.nvs_keys.proofs.CallLemmas.{all_done, all_left, one_under_way}
use Rattle.nvs_keys.proofs.laws.acknowledged_changes_are_kept.Goals as goal

-- call by call
pub returns : goal.returns
returns c = record { done = all_done; one = one_under_way; left = all_left }
