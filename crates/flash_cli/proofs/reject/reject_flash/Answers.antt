use Rattle.boot_select.specs.Boots.{entries_in}
use Rattle.boot_run.specs.Read.{whole_in}
use Rattle.boot_run.specs.Verdict.{rejection}
use Rattle.flash_cli.specs.Reject.{reject_refusal, rejected_in}
use Rattle.flash_cli.proofs.VerdictLemmas.{verdict_judged, verdict_refused}
use Rattle.flash_cli.proofs.reject.reject_flash.Goals as goal

-- the device told the flash, and has what is left of it
pub returns-in-Ok-clause-ok : goal.returns-in-Ok-clause-ok
unfolding rejected_in
returns-in-Ok-clause-ok c =
    verdict_judged reject_refusal c.args.layout.now
    (λ bytes. rejection c.args.layout.now (whole_in c.args.layout.now bytes)
    (entries_in c.args.layout.now bytes))
    c.args.flash.items _ c.device_of-device.ensures.bytes _ _ c.in-Ok.told c.in-Ok.ensures.exact
    c.bytes_of.ensures.exact

-- the entries refuse it
pub returns-in-Err-clause-err : goal.returns-in-Err-clause-err
unfolding rejected_in
returns-in-Err-clause-err c =
    verdict_refused reject_refusal c.args.layout.now
    (λ bytes. rejection c.args.layout.now (whole_in c.args.layout.now bytes)
    (entries_in c.args.layout.now bytes))
    c.args.flash.items _ c.device_of-device.ensures.bytes _ c.in-Err.why c.in-Err.ensures.exact
