use Rattle.std.proofs.Common.{◌∙◌, ap, arith, true, set}
use Rattle.nor_device.proofs.MarksLemmas.{flags_of-mark, flag_is, count_fits, count_more, length-changed}
use Rattle.nor_device.proofs.marks.Marks.set.Goals as goal

-- the flag was not set, so it counts one more
pub overflow_add-self : goal.overflow_add-self
overflow_add-self c =
    omega (
      arith,
      count_fits c.self.inside.words c.args.sector c.self.inside.count c.self.told
          c.requires.inside c.self.invariant
          (flag_is _ _ _ _ _ c.self.view_is c.has.ensures.exact c.if-not-has.true),
    )

pub invariant_of-self : goal.invariant_of-self
invariant_of-self c =
    count_more c.self.inside.words c.args.sector c.self.inside.count c.self.told c.requires.inside
    c.self.invariant (flag_is _ _ _ _ _ c.self.view_is c.has.ensures.exact c.if-not-has.true)

pub returns-then-not-has-clause-exact : goal.returns-then-not-has-clause-exact
returns-then-not-has-clause-exact c =
    flags_of-mark c.self.inside.words c.args.sector (omega (arith, c.requires.inside, c.self.told))
    ∙ ap (λ marks. set marks c.args.sector true) c.self.view_is

pub returns-then-not-has-clause-length : goal.returns-then-not-has-clause-length
returns-then-not-has-clause-length c =
    length-changed c.self.inside.words c.args.sector c.self.inside.count c.self.told
    c.requires.inside c.self.invariant _
