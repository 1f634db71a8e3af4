use Rattle.image_verify.proofs.WholeFacts.{whole_shows_none, whole_from_none}
use Rattle.image_verify.proofs.laws.whole_images_show_no_fault.Goals as goal

pub returns : goal.returns
returns c = λ limit bytes. record { 0 = whole_from_none limit bytes; 1 = whole_shows_none limit bytes }
