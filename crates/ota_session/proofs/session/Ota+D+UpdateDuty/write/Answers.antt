-- What the programs of a piece ask, and what they leave.
use Rattle.std.proofs.Common.{sym, ◌∙◌, arith}
use Rattle.ota_session.proofs.StageLemmas.{can_write_at, has_written_at}
use Rattle.ota_session.proofs.session.Ota+D+UpdateDuty.write.Goals as goal

-- the piece lies in the slot, below the end of the addresses
pub overflow_add-target : goal.overflow_add-target
overflow_add-target g c =
    let can = can_write_at c.args.beat.now.probe _ c.args.self c.args.piece.now c.self.view_is
    c.requires.session c.requires.next (sym c.wrong_byte.ensures.exact ∙ c.in_default.is)
    c.requires.room c.requires.look in
    let small = can.small in
    omega arith

-- its programs are the driver's next steps
pub write-core-requires : goal.write-core-requires
write-core-requires g c =
    let can = can_write_at c.args.beat.now.probe _ c.args.self c.args.piece.now c.self.view_is
    c.requires.session c.requires.next (sym c.wrong_byte.ensures.exact ∙ c.in_default.is)
    c.requires.room c.requires.look in
    record { inside = can.inside; small = can.small; can = can.can }

pub returns-in-Ok-clause-ok : goal.returns-in-Ok-clause-ok
returns-in-Ok-clause-ok g c =
    has_written_at c.args.beat.now.probe _ c.args.self c.args.piece.now c.write-core.result.0
    c.write-core.result.1 c.in-Ok.field-0 c.self.view_is c.requires.session c.requires.next
    (sym c.wrong_byte.ensures.exact ∙ c.in_default.is) c.write-core.ensures.ran c.in-Ok.is
