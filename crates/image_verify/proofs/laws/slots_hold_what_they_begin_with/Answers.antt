use Rattle.image_verify.proofs.HeldFacts.{held_from, held_is}
use Rattle.image_verify.proofs.laws.slots_hold_what_they_begin_with.Goals as goal

pub returns : goal.returns
returns c = λ slot image. record {
  0 = held_is slot image;
  1 = λ holds. held_from slot image holds.begins holds.whole;
}
