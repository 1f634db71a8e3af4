use Rattle.std.proofs.Common.{Err, refl, ap, ◌∙◌}
use Rattle.bus_hub.specs.declared.did.Did.TheVariants.{Missed, Masked}
use Rattle.duo_run.proofs.ActLemmas.{fetch_masked, fetch_missed, mark_room, masked_out}
use Rattle.duo_run.proofs.actions.fetch.Goals as goal

-- a mark takes no room
pub note-requires-clause-room : goal.note-requires-clause-room
note-requires-clause-room g c =
    mark_room c.args.core c.fetch.new.self (Missed c.args.at c.args.len) c.args.len refl refl
    c.requires.room (rw c.in-Err-Unmapped.field-0-is at c.in-Err-Unmapped.ensures.adds)

pub note-requires-in-Err-Masked-clause-room : goal.note-requires-in-Err-Masked-clause-room
note-requires-in-Err-Masked-clause-room g c =
    mark_room c.args.core c.fetch.new.self (Masked c.args.at c.args.len) c.args.len refl refl
    c.requires.room (rw c.in-Err-Masked.field-0-is at c.in-Err-Masked.ensures.adds)

-- the refusal stands behind it
pub returns-in-Err-Unmapped : goal.returns-in-Err-Unmapped
returns-in-Err-Unmapped g c =
    λ rows. fetch_missed rows c.args.k c.args.at c.args.len c.args.core c.fetch.new.self
    c.note.new.self (rw c.in-Err-Unmapped.field-0-is at c.in-Err-Unmapped.ensures.adds)
    c.note.ensures.adds

pub returns-in-Err-Masked : goal.returns-in-Err-Masked
returns-in-Err-Masked g c =
    λ rows. fetch_masked rows c.args.k c.args.at c.args.len c.args.core c.fetch.new.self
    c.note-in-Err-Masked.new.self (rw c.in-Err-Masked.field-0-is at c.in-Err-Masked.ensures.adds)
    (masked_out c.args.core.regs.mask c.args.at c.fetch.result
    (c.in-Err-Masked.is ∙ ap Err c.in-Err-Masked.field-0-is) c.fetch.ensures.masked)
    c.note-in-Err-Masked.ensures.adds
