-- The machine after an allowed event is the table's, and each event of the table keeps a machine
-- safe.
use Rattle.std.proofs.Common.{refl, sym, subst}
use Rattle.duo_machine.specs.Safe.{Safe}
use Rattle.duo_machine.proofs.StepKeeps.{event_keeps_safe}
use Rattle.duo_machine.proofs.moves.step.Goals as goal

pub returns-then-allows-clause-safe : goal.returns-then-allows-clause-safe
returns-then-allows-clause-safe c safe =
    subst Safe (sym c.changed.ensures)
    (event_keeps_safe c.args.m.now c.args.e.now c.requires safe (c.if-allows.ensures.0 refl))
