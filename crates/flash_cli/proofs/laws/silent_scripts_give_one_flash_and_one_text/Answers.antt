use Rattle.flash_cli.proofs.StatusLaws.{one_text, status_by_files}
use Rattle.flash_cli.proofs.laws.silent_scripts_give_one_flash_and_one_text.Goals as goal

-- a whole image shows no fault, so its steps end with those of the entry
pub returns : goal.returns
returns c = record {
  flash = status_by_files c.whole_images_show_no_fault.ensures;
  text = one_text c.whole_images_show_no_fault.ensures;
}
