use Rattle.std.proofs.Common.{◌≡◌, ◌↔◌, drop}
use Rattle.duo_machine.specs.Runs.{AreOfTwoCores, CanRun, after_all}
use Rattle.duo_machine.proofs.moves.run.Given as goal

-- the events that are left lead from the machine that was reached to where all of them lead from
-- the first one
abbrev pub invariant-loop-e : goal.invariant-loop-e
invariant-loop-e l = record {
  cores : AreOfTwoCores (drop l.e-index l.events);
  can : CanRun l.m l.events ↔ CanRun l.reached (drop l.e-index l.events);
  after : after_all l.m l.events ≡ after_all l.reached (drop l.e-index l.events);
}
