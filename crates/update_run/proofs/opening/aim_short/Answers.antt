use Rattle.update_run.proofs.OpeningLemmas.{aim_refused}
use Rattle.update_run.proofs.opening.aim_short.Goals as goal

-- the refusal is the one of the look
pub returns-in-Err-clause-err : goal.returns-in-Err-clause-err
returns-in-Err-clause-err g c =
    aim_refused (g.D.Nor.bytes c.args.device.now) c.args.layout.now c.args.long c.in-Err.no
    c.refusal_of.result c.refusal_of.ensures.exact c.in-Err.ensures.aims
