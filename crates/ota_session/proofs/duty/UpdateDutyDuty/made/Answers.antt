use Rattle.std.proofs.Common.{arith, sym, ap, ◌∙◌, subst}
use Rattle.ota_session.specs.Course.{Course, Grants, course_after, part_of}
use Rattle.ota_session.proofs.ViewLemmas.{one_more_fits, one_more_is}
use Rattle.ota_session.proofs.duty.UpdateDutyDuty.made.Goals as goal

-- the step is the next one, so there are more steps than are made
pub overflow_add-self : goal.overflow_add-self
overflow_add-self c =
    let d = c.self.inside in
    omega (
      arith,
      one_more_fits d.driver d.table.now d.layout d.task d.done c.args.core c.args._step.now
          c.if-core-self.true
          (subst (λ (course : Course). Grants (part_of course c.args.core) c.args._step.now)
          (sym c.self.view_is) c.requires.granted)
          c.self.invariant,
    )

-- and is made behind these
pub returns-then-core-self : goal.returns-then-core-self
returns-then-core-self c =
    let d = c.self.inside in
    record {
      exact = one_more_is d.driver d.table.now d.layout d.task d.done c.args.core c.args._step.now
          c.if-core-self.true
          (subst (λ (course : Course). Grants (part_of course c.args.core) c.args._step.now)
          (sym c.self.view_is) c.requires.granted)
          ∙ ap (λ (course : Course). course_after course c.args.core c.args._step.now)
          c.self.view_is;
    }
