use Rattle.flash_steps.proofs.OpenLemmas.{address_open, erase_in_open, open_address, step_open, write_in_open}
use Rattle.flash_steps.proofs.laws.laws_of_open_parts.Goals as goal

-- by the partition that was tested, and by the test of each row
pub returns : goal.returns
returns c = record {
  write = write_in_open;
  erase = erase_in_open;
  changed = step_open;
  exact = λ rows at. (open_address rows at, address_open rows at);
}
