use Rattle.boot_run.proofs.LevelLemmas.{raised_bits, raised_denied, raised_level, raised_most, raised_some}
use Rattle.boot_run.proofs.level_laws.levels_rise_to_what_is_confirmed.Goals as goal

pub returns : goal.returns
returns c = record {
  bits = raised_bits;
  level = raised_level;
  most = raised_most;
  denied = raised_denied;
  some = raised_some;
}
