use Rattle.std.proofs.Common.{refl}
use Rattle.bus_hub.specs.declared.did.Did.TheVariants.{Mapping}
use Rattle.duo_run.proofs.ActLemmas.{mark_room, pages_mapped}
use Rattle.duo_run.proofs.actions.map.Goals as goal

-- a mark takes no room
pub note-requires-clause-room : goal.note-requires-clause-room
note-requires-clause-room g c =
    mark_room c.args.core c.map-answer.new.self
    (Mapping c.args.page c.args.n c.args.space c.map-answer.result) 0 refl refl c.requires.room
    c.map-answer.ensures.adds

-- the entry stands behind it
pub returns : goal.returns
returns g c =
    λ rows. pages_mapped rows c.args.k c.args.page c.args.n c.args.space c.map-answer.result
    c.mapped.result c.args.core c.map-answer.new.self c.note.new.self c.mapped.ensures.exact
    c.map-answer.ensures.adds c.note.ensures.adds
