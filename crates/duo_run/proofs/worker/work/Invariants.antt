-- whatever the actions to come make of the core, the script does
use Rattle.duo_run.specs.Paced.{ToldOfActs}
use Rattle.duo_run.proofs.WorkLemmas.{IsAt}
use Rattle.duo_run.proofs.worker.work.Given as goal

abbrev pub invariant-loop-i : goal.invariant-loop-i
invariant-loop-i g l = let k = g.K.Duty in record {
  at : IsAt k.part k.grants k.moved l.table l.script l.i l.initial.core l.core;
  told : ToldOfActs (g.P.Pace.told l.pace) l.i;
}
