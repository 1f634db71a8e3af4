use Rattle.nvs_keys.proofs.MapLemmas.{live_len, live_map}
use Rattle.nvs_keys.proofs.laws.live_changes_give_the_map.Goals as goal

pub returns : goal.returns
returns c = record { map = live_map; count = live_len }
