use Rattle.std.proofs.Common.{◌≤◌, ◌+◌, ◌∙◌, length, ap, arith}
use Rattle.nor_device.specs.Nor.{part_of}
use Rattle.nor_device.specs.Marks.{is_marked, covered}
use Rattle.nor_device.proofs.CoverLemmas.{covered_part}
use Rattle.nor_device.proofs.EraseLaws.{length-part}
use Rattle.nor_device.proofs.ReadLemmas.{length-read}
use Rattle.nor_device.proofs.marked_flash.MarkedFlash.read.Goals as goal

-- as many bytes are read as are stored
pub copy-requires : goal.copy-requires
copy-requires c = grind (arith, length-read c.self.inside _ c.self.view_is)

pub cover-requires : goal.cover-requires
cover-requires c =
    let long = length-read c.self.inside _ c.self.view_is in
    let stored = c.self.inside.stored.items in
    let inside : c.args.at + length c.args.out.now ≤ length stored = omega (arith, long, c.requires.inside) in
    record {
      inside = omega (
        arith,
        inside,
        c.self.invariant.most,
        ap length c.copy.ensures.exact,
        length-part stored c.args.at (length c.args.out.now) inside,
      );
    }

-- a copy that is covered is a part of the covered flash
pub returns : goal.returns
returns c =
    let long = length-read c.self.inside _ c.self.view_is in
    let stored = c.self.inside.stored.items in
    let inside : c.args.at + length c.args.out.now ≤ length stored = omega (arith, long, c.requires.inside) in
    record {
      exact = c.cover.ensures.exact
          ∙ ap (covered (is_marked c.self.inside.marks) c.args.at)
          (c.copy.ensures.exact
          ∙ ap (λ flash. part_of flash c.args.at (length c.args.out.now)) c.deref.ensures.value)
          ∙ covered_part (is_marked c.self.inside.marks) stored c.args.at (length c.args.out.now) inside
          ∙ ap (λ flash. part_of flash.bytes c.args.at (length c.args.out.now)) c.self.view_is;
    }
