use Rattle.nvs_keys.proofs.MapLemmas.{get_changed}
use Rattle.nvs_keys.proofs.laws.changes_set_one_key.Goals as goal

pub returns : goal.returns
returns c = get_changed
