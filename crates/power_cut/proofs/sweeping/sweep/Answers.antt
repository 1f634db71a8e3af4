use Rattle.std.proofs.Common.{◌≡◌, ◌∙◌, ap, sym, None}
use Rattle.power_cut.specs.Sweep.{refusal_in}
use Rattle.power_cut.specs.Whole.{total_steps}
use Rattle.power_cut.proofs.SweepLemmas.{uncut_done, uncut_refused}
use Rattle.power_cut.proofs.sweeping.sweep.Goals as goal

-- the session was refused
pub returns-in-Some-clause-refused : goal.returns-in-Some-clause-refused
returns-in-Some-clause-refused g c =
    uncut_refused _ _ _ _ c.args.layout.now c.args.flash.now c.args.tear c.args.aim.now
    c.args.image.now _ c.requires.runner c.in_ok-whole.whole c.in-Some.end
    c.in_ok-whole.ensures.update
    (sym (ap refusal_in c.as_slice.ensures.value) ∙ sym c.refusal.ensures.exact ∙ c.in-Some.is)

pub returns-clause-sweep : goal.returns-clause-sweep
returns-clause-sweep g c =
    let none : refusal_in c.in_ok-whole.whole.legs.items ≡ None =
    sym (ap refusal_in c.as_slice.ensures.value) ∙ sym c.refusal.ensures.exact ∙ c.in_default.is in
    let done = uncut_done _ _ _ _ c.args.layout.now c.args.flash.now c.args.tear c.args.aim.now
    c.args.image.now _ c.requires.runner c.in_ok-whole.whole c.in_ok-whole.ensures.update none in
    record {
      whole = c.in_ok-whole.whole;
      update = c.in_ok-whole.ensures.update;
      done = done.0;
      installed = c.in_ok-whole.ensures.installed done.0;
      steps = c.in_ok-steps.ensures.exact ∙ ap total_steps c.as_slice-2.ensures.value;
      places = c.in_ok-after.ensures.places;
      cuts = c.in_ok-after.ensures.cuts;
    }

pub returns-clause-whole : goal.returns-clause-whole
returns-clause-whole g c =
    let none : refusal_in c.in_ok-whole.whole.legs.items ≡ None =
    sym (ap refusal_in c.as_slice.ensures.value) ∙ sym c.refusal.ensures.exact ∙ c.in_default.is in
    (uncut_done _ _ _ _ c.args.layout.now c.args.flash.now c.args.tear c.args.aim.now
    c.args.image.now _ c.requires.runner c.in_ok-whole.whole c.in_ok-whole.ensures.update none).1
