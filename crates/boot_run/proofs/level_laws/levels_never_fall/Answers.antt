use Rattle.boot_run.proofs.LevelLemmas.{all_bits, all_level, all_older, all_some}
use Rattle.boot_run.proofs.level_laws.levels_never_fall.Goals as goal

pub returns : goal.returns
returns c = record { bits = all_bits; level = all_level; older = all_older; some = all_some }
