use Rattle.rollback.proofs.TruthLemmas.{fallback-images, no_app-images, settled-images, started-boots}
use Rattle.rollback.proofs.VerdictLemmas.{reject-told}
use Rattle.rollback.proofs.laws.truth_values_tell_what_boots.Goals as goal

pub returns : goal.returns
returns c = record {
  boots = started-boots;
  ok = settled-images;
  no_app = no_app-images;
  fallback = fallback-images;
  reject = reject-told;
}
