use Rattle.std.proofs.Common.{◌≡◌, ◌≤◌, ◌*◌, ◌+◌, ◌∙◌, length, sym, ap, arith}
use Rattle.nor_device.specs.Flash.{erased}
use Rattle.nor_device.specs.Marks.{as_read}
use Rattle.nor_device.proofs.EraseLaws.{length-erased}
use Rattle.nor_device.proofs.ReadLemmas.{length-read, overwritten, settled}
use Rattle.nor_device.proofs.marked_flash.MarkedFlash.settle.Goals as goal

-- a sector that begins in the flash ends in it
pub has-requires : goal.has-requires
has-requires c = grind (arith, length-read c.self.inside _ c.self.view_is)

pub fill-requires : goal.fill-requires
fill-requires c =
    let long = length-read c.self.inside _ c.self.view_is in
    let stored = c.self.inside.stored.items in
    record {
      inside = omega (arith, c.requires.inside, long, c.self.invariant.whole, ap length c.deref_mut.ensures.value);
    }

-- it was marked, and is filled
pub returns-then-has-clause-bytes : goal.returns-then-has-clause-bytes
returns-then-has-clause-bytes c =
    let flash = c.self.inside in
    let long = length-read flash _ c.self.view_is in
    let inside : c.args.sector * 4096 + 4096 ≤ length flash.stored.items =
    omega (arith, c.requires.inside, long, c.self.invariant.whole) in
    let filled : c.fill.new.bytes ≡ erased flash.stored.items (c.args.sector * 4096) 4096 =
    c.fill.ensures.exact ∙ ap (λ bytes. erased bytes (c.args.sector * 4096) 4096) c.deref_mut.ensures.value in
    let same : length c.fill.new.bytes ≡ length flash.stored.items =
    ap length filled ∙ length-erased flash.stored.items (c.args.sector * 4096) 4096 inside in
    ap (as_read c.clear.new.self)
    (overwritten flash.stored.items c.fill.new.bytes flash.stored.len flash.stored.ok.0 same ∙ filled)
    ∙ ap (λ marks. as_read marks (erased flash.stored.items (c.args.sector * 4096) 4096)) c.clear.ensures.exact
    ∙ settled flash.marks flash.stored.items c.args.sector (sym c.has.ensures.exact ∙ c.if-has.true) inside
    ∙ ap (λ m. m.bytes) c.self.view_is
