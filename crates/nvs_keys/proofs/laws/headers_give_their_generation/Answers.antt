use Rattle.nvs_keys.proofs.ActiveLemmas.{length_header, mark_header}
use Rattle.nvs_keys.proofs.laws.headers_give_their_generation.Goals as goal

pub returns : goal.returns
returns c = record { size = length_header; given = mark_header }
