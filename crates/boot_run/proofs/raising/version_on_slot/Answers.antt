use Rattle.std.proofs.Common.{◌≡◌}
use Rattle.partition_table.specs.declared.app.App.TheVariants.{Ota}
use Rattle.boot_run.specs.Raised.{version_at}
use Rattle.boot_run.proofs.RaisedLemmas.{found_versions}
use Rattle.boot_run.proofs.raising.version_on_slot.Goals as goal

-- the version that is told of the image that was found
pub returns-clause-version : goal.returns-clause-version
returns-clause-version g c =
    let n = g.D.Nor in
    found_versions c.args.layout.now (n.bytes c.args.device.now) (Ota c.args.slot)
    c.in_ok-found.found
    (λ held. c.version_at.result ≡ version_at c.args.level c.args.slot held)
    c.in_ok-found.ensures.found c.version_at.ensures.exact
