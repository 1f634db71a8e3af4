use Rattle.image_layout.proofs.HeadLemmas.{head_is}
use Rattle.image_layout.proofs.laws.head_has_its_bytes.Goals as goal

-- four bytes each
pub returns : goal.returns
returns c = head_is
