use Rattle.boot_select.proofs.StartLemmas.{all_tried, first_holds, front_held, images_are_placed, settled-told, some_held, started-held}
use Rattle.boot_select.specs.Candidates.{candidates}
use Rattle.boot_select.proofs.laws.images_tell_what_starts.Goals as goal

pub returns : goal.returns
returns c = record {
  holds = first_holds;
  start = front_held;
  some = λ layout images start app placed held. some_held images (candidates layout start) app (all_tried layout start app placed) held;
  told = started-held;
  settled = settled-told;
  placed = images_are_placed;
}
