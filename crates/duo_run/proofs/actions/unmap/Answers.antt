use Rattle.std.proofs.Common.{refl}
use Rattle.bus_hub.specs.declared.did.Did.TheVariants.{Unmapping}
use Rattle.duo_run.proofs.ActLemmas.{mark_room, pages_freed}
use Rattle.duo_run.proofs.actions.unmap.Goals as goal

-- a mark takes no room
pub note-requires-clause-room : goal.note-requires-clause-room
note-requires-clause-room g c =
    mark_room c.args.core c.unmap-answer.new.self (Unmapping c.args.at c.unmap-answer.result) 0 refl
    refl c.requires.room c.unmap-answer.ensures.adds

-- the entry stands behind it
pub returns : goal.returns
returns g c =
    λ rows. pages_freed rows c.args.k c.args.at c.unmap-answer.result c.unmapped.result c.args.core
    c.unmap-answer.new.self c.note.new.self c.unmapped.ensures.exact c.unmap-answer.ensures.adds
    c.note.ensures.adds
