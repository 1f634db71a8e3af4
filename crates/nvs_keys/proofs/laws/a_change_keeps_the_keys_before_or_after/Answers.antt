use Rattle.nvs_keys.proofs.CallLemmas.{change_done, change_known, change_left}
use Rattle.nvs_keys.proofs.laws.a_change_keeps_the_keys_before_or_after.Goals as goal

-- by the record in its slot, behind an exchange of banks where no slot is free
pub returns : goal.returns
returns c = record { left = change_left; done = change_done; known = change_known }
