use Rattle.boot_run.proofs.AboveLemmas.{told_no_older}
use Rattle.boot_run.proofs.start.app_above.Goals as goal

-- what was found, where it is no older
pub returns-clause-found : goal.returns-clause-found
returns-clause-found g c =
    told_no_older c.args.layout.now (g.D.Nor.bytes c.args.device.now) c.args.level c.args.app
    c.in_ok-found.found c.no_older.result c.in_ok-found.ensures.found c.no_older.ensures.kept
