use Rattle.flash_steps.proofs.EraseLemmas.{bytes_of_both, bytes_of_erase, count_of_erase, follow_of_erase, inside_of_erase, kinds_of_erase, one_erase, pieces_of_erase}
use Rattle.flash_steps.proofs.laws.laws_of_erases.Goals as goal

-- by the lemmas on each
pub returns : goal.returns
returns c = record {
  count = count_of_erase;
  one = one_erase;
  erases = kinds_of_erase;
  follow = follow_of_erase;
  inside = inside_of_erase;
  bytes = bytes_of_erase;
  pieces = pieces_of_erase;
  anew = bytes_of_both;
}
