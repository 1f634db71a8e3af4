use Rattle.boot_select.specs.Boots.{entries_in}
use Rattle.rollback.specs.Boot.{boot_writes}
use Rattle.image_verify.specs.Held.{held}
use Rattle.boot_run.proofs.FrameLemmas.{left_images, left_other}
use Rattle.boot_run.proofs.WritesLemmas.{boot_are}
use Rattle.boot_run.proofs.CrashLemmas.{boot_restated, left_boots, left_verdict, left_verdicts}
use Rattle.boot_run.proofs.laws.lost_rewrites_leave_verdicts.Goals as goal

pub returns : goal.returns
returns c = record {
  verdict = left_verdict;
  boot = λ layout size flash left placed after.
      left_verdicts layout size flash left (boot_writes (entries_in layout flash)) placed
      (boot_restated layout size flash (boot_writes (entries_in layout flash)) placed
      (boot_are (entries_in layout flash))) after;
  images = left_images held;
  other = λ layout size flash left write placed.
      left_other layout flash left write placed.aligned;
  some = left_boots;
}
