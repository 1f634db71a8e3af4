use Rattle.std.proofs.Common.{ap, refl, ◌∙◌}
use Rattle.update_run.specs.Opening.{rows_in}
use Rattle.update_run.proofs.OpeningLemmas.{aim_fails, begins_so, layout_fails, rows_fail}
use Rattle.update_run.proofs.opening.begin.Goals as goal

-- the flash has no table
pub returns-in-Err : goal.returns-in-Err
returns-in-Err c = record {
  exact = rows_fail _ _ _ _ (c.in-Err.ensures.exact ∙ ap rows_in c.deref.ensures.value);
}

-- its table gives no layout
pub returns-in-Err-layout_by : goal.returns-in-Err-layout_by
returns-in-Err-layout_by c = record {
  exact = layout_fails _ _ _ c.in-Ok.table _
      (c.in-Ok.ensures.exact ∙ ap rows_in c.deref.ensures.value)
      c.in-Err-layout_by.ensures.exact;
}

-- no update may begin
pub returns-in-Err-aim_at : goal.returns-in-Err-aim_at
returns-in-Err-aim_at c = record {
  exact = aim_fails _ _ _ c.in-Ok.table c.in-Ok-layout_by.layout _ _
      (c.in-Ok.ensures.exact ∙ ap rows_in c.deref.ensures.value)
      c.in-Ok-layout_by.ensures.exact refl c.in-Err-aim_at.ensures.err;
}

-- one may
pub returns-in-Ok-aim_at : goal.returns-in-Ok-aim_at
returns-in-Ok-aim_at c = record {
  exact = begins_so _ _ (record {
    flash = c.in-Ok-aim_at.flash;
    script = c.args.script;
    table = c.in-Ok.table;
    layout = c.in-Ok-layout_by.layout;
    aim = c.in-Ok-aim_at.aim;
  }) _ (rw c.deref.ensures.value at c.in-Ok.ensures.size)
      (c.in-Ok.ensures.exact ∙ ap rows_in c.deref.ensures.value)
      c.in-Ok-layout_by.ensures.exact refl c.in-Ok-aim_at.ensures.aims c.in-Ok-aim_at.ensures.same;
}
