use Rattle.flash_steps.proofs.PartLemmas.{erase_inside, write_inside}
use Rattle.flash_steps.proofs.laws.laws_of_parts.Goals as goal

-- by the range that was tested
pub returns : goal.returns
returns c = record { write = write_inside; erase = erase_inside }
