-- No event is left, so all of them could run, and a run from a safe machine is a safe run.
use Rattle.std.proofs.Common.{◌≡◌, [], drop, arith, sym, subst}
use Rattle.std.proofs.lemmas.Grind.{common_steps}
use Rattle.duo_machine.specs.Runs.{CanRun}
use Rattle.duo_machine.proofs.RunLemmas.{safe_run}
use Rattle.duo_machine.proofs.moves.run.Goals as goal

pub returns-clause-safe : goal.returns-clause-safe
returns-clause-safe c safe =
    let none : drop c.loop-e.e-index c.args.events.now ≡ [] = grind (arith, common_steps) in
    safe_run c.args.m.now c.args.events.now safe c.requires
    (c.loop-e.invariant.can.1 (subst (CanRun c.loop-e.reached) (sym none) tt))
