use Rattle.update_run.proofs.CutLaws.{are_one, by_files, cut_by_files}
use Rattle.update_run.proofs.laws.cuts_beside_silent_scripts_are_functions.Goals as goal

-- a whole image shows no fault, so its steps end with those of the entry
pub returns : goal.returns
returns c = record {
  flash = cut_by_files c.whole_images_show_no_fault.ensures;
  cuts = by_files c.whole_images_show_no_fault.ensures;
  same = are_one c.whole_images_show_no_fault.ensures;
}
