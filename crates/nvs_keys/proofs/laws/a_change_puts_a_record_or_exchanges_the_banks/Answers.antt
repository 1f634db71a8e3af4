use Rattle.nvs_keys.proofs.CallLemmas.{change_exchanges, change_puts}
use Rattle.nvs_keys.proofs.laws.a_change_puts_a_record_or_exchanges_the_banks.Goals as goal

pub returns : goal.returns
returns c = record { free = change_puts; used_up = change_exchanges }
