use Rattle.update_run.specs.Opening.{opening_with}
use Rattle.std.proofs.Common.{ap}
use Rattle.update_run.proofs.SweepLemmas.{unswept_end}
use Rattle.flash_cli.specs.Unbegun.{or_refusal}
use Rattle.flash_cli.proofs.SweptLemmas.{swept_comes, unopened, unswept_comes}
use Rattle.flash_cli.proofs.sweeping.sweep_of.Goals as goal

-- it may not begin
pub returns-in-Err : goal.returns-in-Err
returns-in-Err g c = record {
  exact = rw c.error_of.ensures.exact
      (unopened c.args.tear c.args.flash.items c.args.image.now c.args.text.now c.in-Err.no
      c.in-Err.ensures.exact);
}

-- it was made
pub returns-in-Ok-make_sweep : goal.returns-in-Ok-make_sweep
returns-in-Ok-make_sweep g c = record {
  exact = swept_comes c.args.tear _ (opening_with c.args.image.now c.in-Ok.opening)
      c.in-Ok-make_sweep.swept (ap or_refusal c.in-Ok.ensures.exact.given) c.in-Ok-make_sweep.ensures.swept;
}

-- its session was refused, by its bytes
pub refusal_by-requires : goal.refusal_by-requires
refusal_by-requires g c = record {
  refused = unswept_end c.args.tear (opening_with c.args.image.now c.in-Ok.opening)
      c.in-Err-Refused.end
      (rw c.in-Err-Refused.field-0-is at c.in-Err-Refused.ensures.refused);
}

pub returns-in-Err-Refused : goal.returns-in-Err-Refused
returns-in-Err-Refused g c = record {
  exact = unswept_comes c.args.tear _ (opening_with c.args.image.now c.in-Ok.opening)
      c.in-Err-Refused.end c.refusal_by.result (ap or_refusal c.in-Ok.ensures.exact.given)
      (rw c.in-Err-Refused.field-0-is at c.in-Err-Refused.ensures.refused)
      c.refusal_by.ensures.exact;
}
