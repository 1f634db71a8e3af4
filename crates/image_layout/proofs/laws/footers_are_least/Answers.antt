use Rattle.image_layout.proofs.FooterLemmas.{is_least}
use Rattle.image_layout.proofs.laws.footers_are_least.Goals as goal

-- the next multiple
pub returns : goal.returns
returns c = is_least
