use Rattle.std.proofs.Common.{◌≤◌, ◌+◌, ◌-◌, ◌*◌, ◌/◌, ◌∙◌, List, [], ◌∷◌, refl, sym, ap, subst, arith, rules}
use Rattle.nor_device.specs.declared.step.Step.{Step}
use Rattle.nor_device.specs.declared.step.Step.TheVariants.{Erase}
use Rattle.nor_device.specs.Nor.{one_more}
use Rattle.nor_device.proofs.Missed.{missed_torn}
use Rattle.crash_images.specs.Crash.{IsAfterAll, IsLeftOf}
use Rattle.crash_images.proofs.LeftOf.{after_none}
use Rattle.flash_steps.specs.Steps.{erase_steps}
use Rattle.slip_loader.specs.Loads.{count_after}
use Rattle.slip_loader.proofs.WorkLemmas.{after_one_more, count_append, erase_next, erase_none, erase_split, left_of_next}
use Rattle.slip_loader.proofs.work.erase.Goals as goal

-- at first none is erased
pub loop-sector-init : goal.loop-sector-init
loop-sector-init g c =
    let n = g.D.Nor in
    let at = c.args.at in
    let none = erase_none at (at / 4096) (omega arith) in
    record {
      idle = c.requires.idle;
      above = omega (arith, c.requires.begins);
      made = subst (λ (l : List Step). IsAfterAll l (n.bytes c.args.device.now)
          (n.bytes c.args.device.now)) (sym none)
          (after_none (n.bytes c.args.device.now) (n.bytes c.args.device.now) refl);
      counted = sym (ap (count_after (n.steps c.args.device.now)) none);
      setting = search rules;
      faults_same = refl;
    }

-- one sector more
pub loop-sector-preserved : goal.loop-sector-preserved
loop-sector-preserved g c =
    let n = g.D.Nor in
    let inv = c.loop-sector.invariant in
    let at = c.args.at in
    let sector = c.loop-sector.sector in
    let front = erase_steps at (sector * 4096 - at) in
    let is = erase_next at sector c.requires.begins inv.above in
    record {
      idle = search rules;
      above = omega (arith, inv.above);
      made = subst (λ (l : List Step). IsAfterAll l (n.bytes c.args.device.now)
          (n.bytes c.make_step.new.device)) (sym is)
          (after_one_more front (Erase sector) (n.bytes c.args.device.now)
          (n.bytes c.loop-sector.device) (n.bytes c.make_step.new.device) inv.made
          c.in_ok-make_step.ensures.made);
      counted = c.in_ok-make_step.ensures.counted ∙ ap one_more inv.counted
          ∙ sym (count_append (n.steps c.args.device.now) front (Erase sector ∷ []))
          ∙ sym (ap (count_after (n.steps c.args.device.now)) is);
      setting = search rules;
      faults_same = search rules;
    }

-- a sector was not erased
pub returns-in_err-make_step-clause-left : goal.returns-in_err-make_step-clause-left
returns-in_err-make_step-clause-left g c =
    let n = g.D.Nor in
    let inv = c.loop-sector.invariant in
    let at = c.args.at in
    let len = c.args.len in
    let sector = c.loop-sector.sector in
    let inside : (sector + 1) * 4096 ≤ at + len = omega (arith, c.loop-sector-test.true) in
    let is = erase_split at len sector c.requires.begins inv.above inside in
    subst (λ (l : List Step). IsLeftOf l (n.bytes c.args.device.now) (n.bytes c.make_step.new.device))
    (sym is)
    (left_of_next (erase_steps at (sector * 4096 - at))
    (erase_steps ((sector + 1) * 4096) (at + len - (sector + 1) * 4096)) (Erase sector)
    (n.bytes c.args.device.now) (n.bytes c.loop-sector.device) (n.bytes c.make_step.new.device)
    inv.made (missed_torn n.may_end n.may_tear n.may_refuse n.must_refuse _ _ _ _ _ _ _
    c.in_err-make_step.ensures.missed))
