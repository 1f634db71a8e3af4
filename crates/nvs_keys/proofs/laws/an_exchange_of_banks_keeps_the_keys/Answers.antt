use Rattle.nvs_keys.proofs.ExchangeLemmas.{exchange_left, exchanged_known, exchanged_map}
use Rattle.nvs_keys.proofs.laws.an_exchange_of_banks_keeps_the_keys.Goals as goal

-- the active bank stays, and the other one has no header until it has all live records
pub returns : goal.returns
returns c = record { left = exchange_left; known = exchanged_known; map = exchanged_map }
