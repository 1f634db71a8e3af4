use Rattle.rollback.proofs.ChanceLemmas.{verdict-or_chance}
use Rattle.rollback.proofs.LifeLemmas.{confirmed_boots}
use Rattle.rollback.proofs.laws.lost_rewrites_boot_by_verdict.Goals as goal

pub returns : goal.returns
returns c = record { lost = verdict-or_chance; confirmed = confirmed_boots }
