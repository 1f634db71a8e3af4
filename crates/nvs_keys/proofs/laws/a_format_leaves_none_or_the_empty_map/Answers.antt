use Rattle.nvs_keys.proofs.FormatLemmas.{format_done, format_known, format_left}
use Rattle.nvs_keys.proofs.laws.a_format_leaves_none_or_the_empty_map.Goals as goal

pub returns : goal.returns
returns c = record { left = format_left; done = format_done; known = format_known }
