use Rattle.boot_run.proofs.KeptLemmas.{kept_boot, kept_confirm, kept_reject}
use Rattle.boot_run.proofs.laws.lost_rewrites_keep_pairs.Goals as goal

-- each rewrite is of the pair's entry alone
pub returns : goal.returns
returns c = record {
  boot = λ layout size flash left pair placed is.
      kept_boot layout size flash pair placed is left;
  confirm = λ layout size flash left pair placed is.
      kept_confirm layout size flash pair placed is.is is.active left;
  reject = λ layout size flash left pair whole placed is.
      kept_reject layout size flash pair placed is.is is.active whole left;
}
