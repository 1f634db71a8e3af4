use Rattle.std.proofs.Common.{◌≡◌, ◌+◌, ◌-◌, ◌++◌, ◌∙◌, ap, sym, subst, arith, ℕ, suc, List, [], ◌∷◌, length, None, Ok}
use Rattle.std.proofs.lemmas.Result.{err_from_is_err_and}
use Rattle.nor_device.specs.Flash.{end_of}
use Rattle.cache_gate.specs.Own.{IsInside}
use Rattle.flash_steps.specs.Steps.{write_steps}
use Rattle.flash_ops.specs.Moves.{Move, Make, HasRun, makes}
use Rattle.flash_ops.specs.Asked.{CanMakeMoves}
use Rattle.flash_ops.proofs.Runs.{run_step, left_then}
use Rattle.flash_ops.proofs.Can.{can_then, inside_run}
use Rattle.flash_ops.proofs.PeriodLemmas.{stepping_one, stepping_stops}
use Rattle.flash_ops.proofs.writing.program.Goals as goal

-- one program more was made
pub loop-step-preserved : goal.loop-step-preserved
loop-step-preserved g c =
    let d = g.K.Duty in
    let inv = c.loop-step.invariant in
    let before = c.loop-step.rest.now in
    let later = c.in-Some.later.now in
    let step = c.in-Some.step in
    let at : ℕ = c.loop-step.at + (length before - length later) in
    let ends = c.in-Some.ensures.ends in
    let shorter = c.in-Some.ensures.shorter in
    let here : end_of step ≡ at = omega arith in
    let same : at + length later ≡ c.loop-step.at + length before = omega arith in
    let is : makes (write_steps c.loop-step.at before)
    ≡ (Make step ∷ []) ++ makes (write_steps at later) =
    ap makes c.in-Some.ensures.exact
    ∙ ap (λ (n : ℕ). Make step ∷ makes (write_steps n later)) here in
    let run : HasRun c.args.k (Make step ∷ []) (Ok tt) c.loop-step.quiet c.step.new.self =
    run_step c.args.k step (Ok tt) c.loop-step.quiet c.step.new.self c.in_ok-step.ensures.adds in
    record {
      inside = subst (λ (n : ℕ). IsInside c.step.new.self.base n) (sym same)
          (inside_run c.args.k (Make step ∷ []) (Ok tt) c.loop-step.quiet c.step.new.self
          (c.loop-step.at + length before) run inv.inside);
      small = omega (arith, inv.small);
      can = can_then d.part d.grants d.moved c.args.k (Make step ∷ [])
          (makes (write_steps at later)) None c.loop-step.quiet c.step.new.self
          (subst (λ (m : List Move). CanMakeMoves d.part d.grants d.moved m None c.loop-step.quiet) is
          inv.can) run;
      left = left_then c.args.k (makes (write_steps c.args.at c.args.bytes.now))
          (makes (write_steps c.loop-step.at before)) (Make step ∷ [])
          (makes (write_steps at later)) c.args.quiet.now c.loop-step.quiet c.step.new.self is
          inv.left run;
      stepping = stepping_one (length (write_steps c.args.at c.args.bytes.now))
          (length (write_steps c.loop-step.at before)) (length (write_steps at later))
          c.args.quiet.now c.loop-step.quiet c.step.new.self
          (ap length c.in-Some.ensures.exact
          ∙ ap (λ (n : ℕ). suc (length (write_steps n later))) here)
          inv.stepping c.in_ok-step.ensures.shows;
    }

-- the next one was refused
pub returns-in_err-step-clause-shows : goal.returns-in_err-step-clause-shows
returns-in_err-step-clause-shows g c =
    let before = c.loop-step.rest.now in
    let later = c.in-Some.later.now in
    let step = c.in-Some.step in
    let at : ℕ = c.loop-step.at + (length before - length later) in
    let ends = c.in-Some.ensures.ends in
    let shorter = c.in-Some.ensures.shorter in
    let here : end_of step ≡ at = omega arith in
    let p = err_from_is_err_and c.from_residual.result c.from_residual.ensures.1 in
    rw p.1 (stepping_stops (length (write_steps c.args.at c.args.bytes.now))
    (length (write_steps c.loop-step.at before)) (length (write_steps at later))
    c.in_err-step.field-0.0 c.args.quiet.now c.loop-step.quiet c.step.new.self
    (ap length c.in-Some.ensures.exact
    ∙ ap (λ (n : ℕ). suc (length (write_steps n later))) here)
    c.loop-step.invariant.stepping c.in_err-step.ensures.shows)
