use Rattle.std.proofs.Common.{◌*◌, ◌∙◌, false, sym, ap, arith, get_or, length}
use Rattle.nor_device.proofs.MarksLemmas.{flag_read, length-flags_of}
use Rattle.nor_device.proofs.marks.Marks.has.Goals as goal

-- the bit of the sector's word is its flag
pub returns-clause-exact : goal.returns-clause-exact
returns-clause-exact c =
    flag_read c.self.inside.words c.args.sector (omega (arith, c.requires.inside, c.self.told))
    ∙ ap (λ marks. get_or marks c.args.sector false) c.self.view_is

pub returns-clause-length : goal.returns-clause-length
returns-clause-length c =
    ap length (sym c.self.view_is) ∙ length-flags_of c.self.inside.words
    ∙ ap (λ n. 64 * n) c.self.told
