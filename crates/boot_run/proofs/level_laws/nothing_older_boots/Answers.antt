use Rattle.boot_run.proofs.LevelLemmas.{above_boots, above_none, above_started, above_zero}
use Rattle.boot_run.proofs.level_laws.nothing_older_boots.Goals as goal

pub returns : goal.returns
returns c =
    record { boots = above_boots; started = above_started; none = above_none; zero = above_zero }
