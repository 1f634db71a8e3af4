use Rattle.duo_run.proofs.NumberLemmas.{in_step}
use Rattle.duo_run.proofs.ParkedLemmas.{parked_run}
use Rattle.duo_run.proofs.both.end_leg.Goals as goal

-- the steps of the device are at least as many as before
pub leg_behind-leg-requires-clause-order : goal.leg_behind-leg-requires-clause-order
leg_behind-leg-requires-clause-order c =
    rw c.into_parts-dev.ensures.exact
    (in_step c.args.left.base c.args.before c.close-bus.result c.args.left.share c.args.right.share
    c.ranges.before.fits c.requires.base c.close-bus.ensures.stands)

-- both cores leave one run
pub returns-clause-parked : goal.returns-clause-parked
returns-clause-parked c =
    parked_run c.args.left c.args.right c.requires.left.1 c.requires.right.1 c.close-bus.ensures.run
