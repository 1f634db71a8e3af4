-- What the erases ask, and what they leave.
use Rattle.ota_session.proofs.CountLemmas.{begun_err, begun_ok}
use Rattle.ota_session.proofs.StageLemmas.{can_begin, few_sectors, has_begun, has_slot, not_begun}
use Rattle.ota_session.proofs.session.begin.Goals as goal

-- there is a slot
pub place-row-requires : goal.place-row-requires
place-row-requires g c = record {
  found = has_slot c.args.layout.now c.args.aim.now c.args.core c.requires.session;
}

pub bytes_of_sectors-requires : goal.bytes_of_sectors-requires
bytes_of_sectors-requires g c = record {
  small = few_sectors c.args.layout.now c.args.aim.now c.place-row.result c.place-row.ensures.exact
      c.args.beat.now.probe c.args.core c.requires.session;
}

-- the erases are the driver's first steps, in its slot
pub erase-core-requires : goal.erase-core-requires
erase-core-requires g c =
    let can = can_begin c.args.layout.now c.args.aim.now c.place-row.result c.place-row.ensures.exact
    c.args.beat.now.probe c.args.core c.requires.session c.bytes_of_sectors.result
    c.bytes_of_sectors.ensures.exact c.requires.room c.requires.look in
    record { inside = can.inside; small = can.small; aligned = can.aligned; can = can.can }

pub returns-in-Ok-clause-ok : goal.returns-in-Ok-clause-ok
returns-in-Ok-clause-ok g c =
    has_begun c.args.layout.now c.args.aim.now c.place-row.result c.place-row.ensures.exact
    c.args.beat.now.probe c.args.core c.requires.session c.bytes_of_sectors.result
    c.erase-core.result.0 c.erase-core.result.1 c.in-Ok.field-0 c.of.result
    c.bytes_of_sectors.ensures.exact c.erase-core.ensures.ran c.in-Ok.is c.of.ensures.exact

pub returns-in-Err-clause-err : goal.returns-in-Err-clause-err
returns-in-Err-clause-err g c =
    not_begun c.args.layout.now c.args.aim.now c.place-row.result c.place-row.ensures.exact
    c.args.beat.now.probe c.args.core c.requires.session c.bytes_of_sectors.result
    c.erase-core.result.0 c.erase-core.result.1 c.in-Err.no c.bytes_of_sectors.ensures.exact
    c.erase-core.ensures.ran c.in-Err.is

pub returns-in-Ok-clause-ops : goal.returns-in-Ok-clause-ops
returns-in-Ok-clause-ops g c =
    begun_ok c.args.aim.now c.place-row.result.offset c.bytes_of_sectors.result c.args.beat.now.ops
    c.erase-core.new.beat.ops
    c.erase-core.result.1 c.bytes_of_sectors.ensures.exact c.erase-core.ensures.ops c.in-Ok.field-0
    c.in-Ok.is

pub returns-in-Err-clause-ops : goal.returns-in-Err-clause-ops
returns-in-Err-clause-ops g c =
    begun_err c.args.aim.now c.place-row.result.offset c.bytes_of_sectors.result c.args.beat.now.ops
    c.erase-core.new.beat.ops
    c.erase-core.result.1 c.bytes_of_sectors.ensures.exact c.erase-core.ensures.ops c.in-Err.no
    c.in-Err.is
