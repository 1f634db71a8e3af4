use Rattle.std.proofs.Common.{arith}
use Rattle.update_run.proofs.OpeningLemmas.{longer_refused, never_fits}
use Rattle.update_run.proofs.opening.aim_long.Goals as goal

-- no slot has room for so many bytes
pub unreachable-requires : goal.unreachable-requires
unreachable-requires g c =
    never_fits (g.D.Nor.bytes c.args.device.now) c.args.layout.now
    (g.D.Nor.size c.args.device.now) c.in-Ok.field-0 c.requires.placed c.requires.small
    c.requires.told c.in-Ok.ensures.aims

-- and the refusal is that of 4 GiB
pub returns-clause-err : goal.returns-clause-err
returns-clause-err g c =
    longer_refused (g.D.Nor.bytes c.args.device.now) c.args.layout.now
    (g.D.Nor.size c.args.device.now) c.args.long c.in-Err.why c.with_need.result
    c.requires.placed c.requires.small (omega arith) c.with_need.ensures.exact
    c.in-Err.ensures.err
