use Rattle.duo_run.proofs.ActLemmas.{erase_acted}
use Rattle.duo_run.proofs.AskLemmas.{can_erase, erase_room, erase_sector}
use Rattle.duo_run.proofs.actions.erase.Goals as goal

-- the duty allows it, where it is not refused
pub part_erase-core-requires : goal.part_erase-core-requires
part_erase-core-requires g c =
    let k = g.K.Duty in
    record {
      can = rw c.as_slice.ensures.value
          (can_erase k.part k.grants k.moved c.args.core c.args.table.now c.args.label.now
          c.args.offset c.args.len c.requires.can);
      sector = rw c.as_slice.ensures.value
          (erase_sector k.part k.grants k.moved c.args.core c.args.table.now c.args.label.now
          c.args.offset c.args.len c.requires.can);
    }

-- its steps left room for the note
pub note_end-requires : goal.note_end-requires
note_end-requires g c =
    let k = g.K.Duty in
    record {
      room = erase_room k.part k.grants k.moved c.args.core c.part_erase-core.result.0 c.args.k
          c.args.table.now c.args.label.now c.args.offset c.args.len c.part_erase-core.result.1
          c.requires.can (rw c.as_slice.ensures.value at c.part_erase-core.ensures.barred)
          (rw c.as_slice.ensures.value at c.part_erase-core.ensures.ran);
    }

-- it was made, refused, or ended by the device
pub returns : goal.returns
returns g c =
    erase_acted c.args.table.now c.args.k c.args.label.now c.args.offset c.args.len
    c.part_erase-core.result.1 c.note_end.result.1 c.args.core c.part_erase-core.result.0
    c.note_end.result.0 (rw c.as_slice.ensures.value at c.part_erase-core.ensures.barred)
    (rw c.as_slice.ensures.value at c.part_erase-core.ensures.ran) c.note_end.ensures
