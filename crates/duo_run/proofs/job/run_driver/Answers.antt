use Rattle.duo_run.specs.Jobs.{purpose_of}
use Rattle.duo_run.proofs.DriveLemmas.{drive_kept, driven_kept}
use Rattle.duo_run.proofs.job.run_driver.Goals as goal

-- the core that is started can do the job
pub drive-core-requires : goal.drive-core-requires
drive-core-requires g c = record {
  can = drive_kept c.args.layout.now (purpose_of c.args.job.now) c.args.probe c.args.core
      c.start.result c.start.ensures.keeps c.requires.can;
}

-- from rest to rest it only did it
pub returns-clause-driven : goal.returns-clause-driven
returns-clause-driven g c =
    rw c.ended.ensures
    (driven_kept c.args.layout.now (purpose_of c.args.job.now) c.args.probe
    c.drive-core.result.1 c.args.core c.start.result c.drive-core.result.0 c.rest.result
    c.start.ensures.keeps c.drive-core.ensures.driven c.rest.ensures.keeps)
