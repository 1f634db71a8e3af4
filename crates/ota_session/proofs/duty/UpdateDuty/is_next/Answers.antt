use Rattle.std.proofs.Common.{subst}
use Rattle.std.specs.Prelude.{◌↔◌, IsTrue}
use Rattle.ota_session.specs.Course.{Course, IsNext, steps_for}
use Rattle.ota_session.specs.DutyView.{purpose_of}
use Rattle.ota_session.proofs.NumberLemmas.{next_is}
use Rattle.ota_session.proofs.duty.UpdateDuty.is_next.Goals as goal

-- the next step is the one with the number of those made
pub returns : goal.returns
returns c =
    let d = c.self.inside in
    record {
      exact = subst (λ (course : Course). IsTrue c.is_step.result
          ↔ IsNext course.rest c.args.step.now) c.self.view_is
          (next_is (steps_for d.layout (purpose_of d.task)) d.done c.args.step.now c.is_step.result
          c.is_step.ensures.exact);
    }
