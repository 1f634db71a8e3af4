use Rattle.std.proofs.Common.{false, sym, ap, ◌∙◌}
use Rattle.partition_table.specs.Layout.{Places}
use Rattle.ota_session.proofs.ViewLemmas.{install_test, nowhere_test}
use Rattle.ota_session.proofs.task.is_step.Goals as goal

-- by the partition of the slot
pub returns-in-Some : goal.returns-in-Some
returns-in-Some c =
    let t = c.in-Install in
    record {
      exact = install_test c.args.layout.now c.args.task.now t.aim t.image t.is
          c.args.number c.args.step.now c.is_image_step.result c.layout.inside.otadata c.in-Some.row
          (ap (λ (l : Places). l.otadata) (sym c.layout.view_is))
          (sym c.row_of.ensures.exact ∙ c.in-Some.is) c.is_image_step.ensures.exact;
    }

-- there is none
pub returns-in-None : goal.returns-in-None
returns-in-None c =
    let t = c.in-Install in
    record {
      exact = nowhere_test c.args.layout.now c.args.task.now t.aim t.image t.is
          c.args.number c.args.step.now false (sym c.row_of.ensures.exact ∙ c.in-None.is);
    }
