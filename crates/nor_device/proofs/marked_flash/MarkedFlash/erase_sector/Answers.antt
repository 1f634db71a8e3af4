use Rattle.std.proofs.Common.{◌≡◌, ◌+◌, ◌-◌, ◌*◌, ◌∙◌, sym, ap, arith}
use Rattle.nor_device.specs.declared.step.Step.TheVariants.{Erase}
use Rattle.nor_device.specs.Flash.{erased}
use Rattle.nor_device.proofs.EraseLaws.{applied_erase}
use Rattle.nor_device.proofs.marked_flash.MarkedFlash.erase_sector.Goals as goal

-- one sector from its first byte on
pub returns-clause-bytes : goal.returns-clause-bytes
returns-clause-bytes c =
    let old = c.args.self.now.bytes in
    let sector = c.args.sector in
    let len : (sector + 1 - sector) * 4096 ≡ 4096 = omega arith in
    c.erase.ensures.bytes
    ∙ ap (λ n. erased old (sector * 4096) n) len
    ∙ sym (applied_erase old (Erase sector) tt c.requires.inside)
