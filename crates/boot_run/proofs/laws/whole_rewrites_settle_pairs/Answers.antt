use Rattle.boot_run.proofs.SettleLemmas.{bytes_stored, settled_boot, settled_confirm, settled_second}
use Rattle.boot_run.proofs.laws.whole_rewrites_settle_pairs.Goals as goal

-- the entries are read back as they were written
pub returns : goal.returns
returns c = record {
  boot = λ layout flash pair placed small is.
      settled_boot layout flash pair placed (bytes_stored layout flash placed small) is;
  second_boot = λ layout flash pair placed small is.
      settled_second layout flash pair placed (bytes_stored layout flash placed small) is;
  confirm = λ layout flash pair placed small is.
      settled_confirm layout flash pair placed (bytes_stored layout flash placed small) is.is
      is.active;
}
