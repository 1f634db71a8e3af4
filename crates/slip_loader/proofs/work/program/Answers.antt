use Rattle.std.proofs.Common.{◌≡◌, ℕ, ◌+◌, ◌-◌, ◌∙◌, ◌∷◌, length, ap, arith, rules}
use Rattle.nor_device.specs.Flash.{end_of}
use Rattle.nor_device.proofs.Missed.{missed_torn}
use Rattle.flash_steps.specs.Steps.{write_steps}
use Rattle.slip_loader.proofs.WorkLemmas.{writing_next, writing_torn}
use Rattle.slip_loader.proofs.work.program.Goals as goal

-- one page more
pub loop-step-preserved : goal.loop-step-preserved
loop-step-preserved g c =
    let n = g.D.Nor in
    let inv = c.loop-step.invariant in
    let before = c.loop-step.rest.now in
    let later = c.in-Some.later.now in
    let step = c.in-Some.step in
    let at : ℕ = c.loop-step.at + (length before - length later) in
    let ends = c.in-Some.ensures.ends in
    let shorter = c.in-Some.ensures.shorter in
    let here : end_of step ≡ at = omega arith in
    record {
      idle = search rules;
      inside = omega (arith, inv.inside);
      writing = writing_next (write_steps c.args.at c.args.bytes.now)
          (write_steps c.loop-step.at before) (write_steps at later) step _ _ _ _ _ _
          (c.in-Some.ensures.exact ∙ ap (λ (a : ℕ). step ∷ write_steps a later) here)
          inv.writing c.in_ok-make_step.ensures.counted c.in_ok-make_step.ensures.made;
      setting = search rules;
      faults_same = search rules;
    }

-- a page was not programmed
pub returns-in_err-make_step-clause-left : goal.returns-in_err-make_step-clause-left
returns-in_err-make_step-clause-left g c =
    let n = g.D.Nor in
    let inv = c.loop-step.invariant in
    let before = c.loop-step.rest.now in
    let later = c.in-Some.later.now in
    let step = c.in-Some.step in
    writing_torn (write_steps c.args.at c.args.bytes.now) (write_steps c.loop-step.at before)
    (write_steps (end_of step) later) step _ _ _ _ _ c.in-Some.ensures.exact inv.writing
    (missed_torn n.may_end n.may_tear n.may_refuse n.must_refuse _ _ _ _ _ _ _
    c.in_err-make_step.ensures.missed)
