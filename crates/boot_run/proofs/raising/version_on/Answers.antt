use Rattle.std.proofs.Common.{◌≡◌, IfOk, Err, sym, ap, subst}
use Rattle.boot_run.specs.declared.fused.Denied.TheVariants.{NoOtaApp}
use Rattle.boot_run.specs.Raised.{OfVersions, version_by}
use Rattle.boot_run.proofs.RaisedLemmas.{any_versions}
use Rattle.boot_run.proofs.raising.version_on.Goals as goal

-- no slot is named
pub returns-in-Factory-clause-version : goal.returns-in-Factory-clause-version
returns-in-Factory-clause-version g c =
    any_versions c.args.layout.now (g.D.Nor.bytes c.args.device.now)
    (λ versions. Err NoOtaApp ≡ version_by c.args.level versions c.args.app)
    (λ versions. sym (ap (version_by c.args.level versions) c.in-Factory.is))

pub returns-in-Test-clause-version : goal.returns-in-Test-clause-version
returns-in-Test-clause-version g c =
    any_versions c.args.layout.now (g.D.Nor.bytes c.args.device.now)
    (λ versions. Err NoOtaApp ≡ version_by c.args.level versions c.args.app)
    (λ versions. sym (ap (version_by c.args.level versions) c.in-Test.is))

-- the slot that is named
pub returns-in-Ota-clause-version : goal.returns-in-Ota-clause-version
returns-in-Ota-clause-version g c =
    subst (λ app. IfOk c.version_on_slot.result (λ version.
    OfVersions c.args.layout.now (g.D.Nor.bytes c.args.device.now)
    (λ versions. version ≡ version_by c.args.level versions app))) (sym c.in-Ota.is)
    c.version_on_slot.ensures.version
