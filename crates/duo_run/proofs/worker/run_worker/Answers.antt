use Rattle.flash_ops.specs.Told.{fault_of}
use Rattle.duo_run.proofs.WorkLemmas.{worked_kept}
use Rattle.duo_run.proofs.worker.run_worker.Goals as goal

-- from rest to rest it only worked
pub returns-clause-worked : goal.returns-clause-worked
returns-clause-worked g c =
    rw c.ended.ensures
    (worked_kept c.args.table.now 1 c.args.script.now (fault_of c.work-core.result.1) c.args.core
    c.start.result c.work-core.result.0 c.rest.result
    c.start.ensures.keeps c.work-core.ensures.worked c.rest.ensures.keeps)
