use Rattle.std.proofs.Common.{◌∙◌, ap, arith, false, set}
use Rattle.nor_device.proofs.MarksLemmas.{flags_of-clear, flag_is, count_some, count_less, length-changed}
use Rattle.nor_device.proofs.marks.Marks.clear.Goals as goal

-- the flag was set, so it counts one less
pub overflow_sub-self : goal.overflow_sub-self
overflow_sub-self c =
    count_some c.self.inside.words c.args.sector c.self.inside.count c.self.told c.requires.inside
    c.self.invariant (flag_is _ _ _ _ _ c.self.view_is c.has.ensures.exact c.if-has.true)

pub invariant_of-self : goal.invariant_of-self
invariant_of-self c =
    count_less c.self.inside.words c.args.sector c.self.inside.count c.self.told c.requires.inside
    c.self.invariant (flag_is _ _ _ _ _ c.self.view_is c.has.ensures.exact c.if-has.true)

pub returns-then-has-clause-exact : goal.returns-then-has-clause-exact
returns-then-has-clause-exact c =
    flags_of-clear c.self.inside.words c.args.sector (omega (arith, c.requires.inside, c.self.told))
    ∙ ap (λ marks. set marks c.args.sector false) c.self.view_is

pub returns-then-has-clause-length : goal.returns-then-has-clause-length
returns-then-has-clause-length c =
    length-changed c.self.inside.words c.args.sector c.self.inside.count c.self.told
    c.requires.inside c.self.invariant _
