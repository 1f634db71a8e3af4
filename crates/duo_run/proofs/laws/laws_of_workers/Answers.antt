use Rattle.duo_run.proofs.OpenLemmas.{script_inside}
use Rattle.duo_run.proofs.ShareLemmas.{done_made, done_regs, stopped_made}
use Rattle.duo_run.proofs.laws.laws_of_workers.Goals as goal

pub returns : goal.returns
returns c = record {
  made = λ rows regs script share d. done_made rows 1 regs script share d;
  stopped = λ rows regs script why share s. stopped_made rows why 1 regs script share s;
  registers = λ rows regs script share d. done_regs rows 1 regs script share d;
  inside = λ flash rows script fits. script_inside flash rows script fits;
}
