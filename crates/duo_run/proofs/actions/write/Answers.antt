use Rattle.duo_run.proofs.ActLemmas.{write_acted}
use Rattle.duo_run.proofs.AskLemmas.{can_write, write_room}
use Rattle.duo_run.proofs.actions.write.Goals as goal

-- the duty allows it, where it is not refused
pub part_write-core-requires : goal.part_write-core-requires
part_write-core-requires g c =
    let k = g.K.Duty in
    record {
      can = rw (c.as_slice.ensures.value, c.bytes.ensures.bytes)
          (can_write k.part k.grants k.moved c.args.core c.args.table.now c.args.label.now
          c.args.offset c.args.bytes.now c.requires.can);
    }

-- its steps left room for the note
pub note_end-requires : goal.note_end-requires
note_end-requires g c =
    let k = g.K.Duty in
    record {
      room = write_room k.part k.grants k.moved c.args.core c.part_write-core.result.0 c.args.k
          c.args.table.now c.args.label.now c.args.offset c.args.bytes.now
          c.part_write-core.result.1 c.requires.can
          (rw (c.as_slice.ensures.value, c.bytes.ensures.bytes) at c.part_write-core.ensures.barred)
          (rw (c.as_slice.ensures.value, c.bytes.ensures.bytes) at c.part_write-core.ensures.ran);
    }

-- it was made, refused, or ended by the device
pub returns : goal.returns
returns g c =
    write_acted c.args.table.now c.args.k c.args.label.now c.args.offset c.args.bytes.now
    c.part_write-core.result.1 c.note_end.result.1 c.args.core c.part_write-core.result.0
    c.note_end.result.0
    (rw (c.as_slice.ensures.value, c.bytes.ensures.bytes) at c.part_write-core.ensures.barred)
    (rw (c.as_slice.ensures.value, c.bytes.ensures.bytes) at c.part_write-core.ensures.ran)
    c.note_end.ensures
