use Rattle.flash_cli.proofs.MadeLaws.{made_whole}
use Rattle.flash_cli.proofs.laws.what_is_made_is_found_whole.Goals as goal

-- what is made is whole, and what is whole shows no fault
pub returns : goal.returns
returns c = record {
  whole = made_whole c.whole_images_show_no_fault.ensures c.made_images_are_whole.ensures.whole;
}
