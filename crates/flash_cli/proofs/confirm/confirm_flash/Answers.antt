use Rattle.boot_select.specs.Boots.{entries_in}
use Rattle.boot_run.specs.Verdict.{confirmation}
use Rattle.flash_cli.specs.Confirm.{confirm_refusal, confirmed_in}
use Rattle.flash_cli.proofs.VerdictLemmas.{verdict_judged, verdict_refused}
use Rattle.flash_cli.proofs.confirm.confirm_flash.Goals as goal

-- the device told the flash, and has what is left of it
pub returns-in-Ok-clause-ok : goal.returns-in-Ok-clause-ok
unfolding confirmed_in
returns-in-Ok-clause-ok c =
    verdict_judged confirm_refusal c.args.layout.now
    (λ bytes. confirmation (entries_in c.args.layout.now bytes))
    c.args.flash.items _ c.device_of-device.ensures.bytes _ _ c.in-Ok.told c.in-Ok.ensures.exact
    c.bytes_of.ensures.exact

-- the entries refuse it
pub returns-in-Err-clause-err : goal.returns-in-Err-clause-err
unfolding confirmed_in
returns-in-Err-clause-err c =
    verdict_refused confirm_refusal c.args.layout.now
    (λ bytes. confirmation (entries_in c.args.layout.now bytes))
    c.args.flash.items _ c.device_of-device.ensures.bytes _ c.in-Err.why c.in-Err.ensures.exact
