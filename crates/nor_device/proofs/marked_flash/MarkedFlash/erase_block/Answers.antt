use Rattle.std.proofs.Common.{◌≡◌, ◌+◌, ◌-◌, ◌*◌, ◌∙◌, sym, ap, arith}
use Rattle.nor_device.specs.declared.step.Step.TheVariants.{Block}
use Rattle.nor_device.specs.Flash.{erased}
use Rattle.nor_device.proofs.EraseLaws.{applied_erase}
use Rattle.nor_device.proofs.marked_flash.MarkedFlash.erase_block.Goals as goal

-- sixteen sectors from the first byte of the block on
pub returns-clause-bytes : goal.returns-clause-bytes
returns-clause-bytes c =
    let old = c.args.self.now.bytes in
    let block = c.args.block in
    let start : block * 16 * 4096 ≡ block * 65536 = omega arith in
    let len : (block * 16 + 16 - block * 16) * 4096 ≡ 65536 = omega arith in
    c.erase.ensures.bytes
    ∙ ap (λ n. erased old (block * 16 * 4096) n) len
    ∙ ap (λ n. erased old n 65536) start
    ∙ sym (applied_erase old (Block block) tt c.requires.inside)
