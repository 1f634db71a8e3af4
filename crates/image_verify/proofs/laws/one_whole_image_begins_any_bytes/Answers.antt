use Rattle.image_verify.proofs.HeldFacts.{one_whole}
use Rattle.image_verify.proofs.laws.one_whole_image_begins_any_bytes.Goals as goal

pub returns : goal.returns
returns c = one_whole
