use Rattle.flash_steps.proofs.EraseLemmas.{bytes_of_write}
use Rattle.flash_steps.proofs.WriteLemmas.{count_of_write, follow_of_write, inside_of_write, one_program, pages_of_write, pieces_of_write, whole_write}
use Rattle.flash_steps.proofs.laws.laws_of_writes.Goals as goal

-- by the lemmas on each
pub returns : goal.returns
returns c = record {
  count = count_of_write;
  one = one_program;
  pages = pages_of_write;
  follow = follow_of_write;
  inside = inside_of_write;
  whole = whole_write;
  bytes = bytes_of_write;
  pieces = pieces_of_write;
}
