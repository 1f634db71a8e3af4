use Rattle.std.proofs.Common.{◌<◌, arith}
use Rattle.std.proofs.lemmas.List.Elements.{All-from_get_or}
use Rattle.duo_run.proofs.OpeningLemmas.{aimed_opens}
use Rattle.duo_run.proofs.leg_tests.session_of.Goals as goal

-- a session of the application that runs
pub session-requires-clause-layout : goal.session-requires-clause-layout
session-requires-clause-layout g c κs within = (
  c.args.opening.layout,
  c.requires.table.layout_is,
  record {
    ready = c.requires.ready;
    table = c.requires.table;
    opens = aimed_opens c.args.opening.dev.inner.bytes c.args.opening.table
        c.args.opening.layout c.args.opening.aim c.args.image.now c.requires.table
        (All-from_get_or (λ b. b < 256) c.args.image.now 0
        (λ i inside. omega (arith, c.type_inv.image i)))
        c.requires.aims;
  },
)

-- which left no step running
pub bytes_of-requires : goal.bytes_of-requires
bytes_of-requires g c = record {
  idle = (c.in-Ok.ensures.leg c.args.opening.layout c.requires.table.layout_is).leg.ran_is.idle;
}
