use Rattle.std.proofs.Common.{◌≡◌}
use Rattle.boot_select.specs.Settled.{sectors}
use Rattle.rollback.specs.Boot.{boot_writes}
use Rattle.rollback.proofs.BootLemmas.{boot_writes-none, gathered}
use Rattle.rollback.proofs.boot.boot_writes.Goals as goal

pub returns : goal.returns
returns c =
    let es = sectors c.args.e0.now c.args.e1.now in
    let is : c.begin.result.items ≡ boot_writes es =
    gathered es _ _ _ _ _ _ c.new-writes.ensures c.abort.ensures.items c.abort-2.ensures.items
    c.given_up.ensures.exact c.given_up-2.ensures.exact c.begin.ensures.exact in
    record { exact = is; none = rw is (boot_writes-none es) }
