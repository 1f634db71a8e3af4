use Rattle.std.proofs.Common.{length}
use Rattle.duo_run.proofs.leg_tests.aimed.Goals as goal

-- the table gives its layout its place
pub aim-requires-clause-placed : goal.aim-requires-clause-placed
aim-requires-clause-placed c =
    let laws = c.tables_open_updates.ensures in
    laws.placed (length c.args.dev.inner.bytes) c.args.table.now c.args.layout.now
    (laws.fits _ _ _ c.requires.table.table) c.requires.table.layout_is
