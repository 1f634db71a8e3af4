use Rattle.std.proofs.Common.{ap, length}
use Rattle.bus_hub.specs.declared.journal.Room.{Room}
use Rattle.duo_run.specs.Jobs.{length_for, purpose_of}
use Rattle.duo_run.specs.Paced.{ops_for}
use Rattle.duo_run.proofs.BeginLemmas.{base_is, begins_can, begins_good, begins_long, begins_placed, begins_short, few_entries}
use Rattle.duo_run.proofs.OutcomeLemmas.{both_ends, kept_base, kept_left, kept_right, outcome}
use Rattle.duo_run.proofs.PacedLemmas.{few_ops, told_leg}
use Rattle.duo_run.proofs.both.leg.Goals as goal

-- the pages of the application are in the flash
pub application_pages-pages-requires : goal.application_pages-pages-requires
application_pages-pages-requires g c = record {
  placed = begins_placed c.args.beside.now.table.now c.args.beside.now.script.now c.args.driver
      c.args.layout.now (purpose_of c.args.job.now) c.args.offset c.args.info.now.segments.items
      c.args.dev c.requires.begins;
}

-- the image fits it
pub room_for-requires : goal.room_for-requires
room_for-requires g c = record {
  small = begins_short c.args.beside.now.table.now c.args.beside.now.script.now c.args.driver
      c.args.layout.now (purpose_of c.args.job.now) c.args.offset c.args.info.now.segments.items
      c.args.dev c.requires.begins;
}

-- it is good by the duty
pub open_leg-requires-clause-good : goal.open_leg-requires-clause-good
open_leg-requires-clause-good g c =
    rw (c.duty_for-duty.ensures.exact c.args.layout.now c.requires.begins.table.layout_is)
    (begins_good c.args.beside.now.table.now c.args.beside.now.script.now c.args.driver
    c.args.layout.now (purpose_of c.args.job.now) c.args.offset c.args.info.now.segments.items
    c.args.dev c.requires.begins)

-- both rooms are few entries
pub open_leg-requires-clause-entries : goal.open_leg-requires-clause-entries
open_leg-requires-clause-entries g c =
    few_entries (length_for (purpose_of c.args.job.now)) c.room_for.result.entries
    c.worker_room.result.entries _
    (begins_short c.args.beside.now.table.now c.args.beside.now.script.now c.args.driver
    c.args.layout.now (purpose_of c.args.job.now) c.args.offset c.args.info.now.segments.items
    c.args.dev c.requires.begins)
    (ap (λ (r : Room). r.entries) c.room_for.ensures.exact) c.worker_room.ensures.entries
    c.rooms_of-rooms.ensures.entries

-- both cores can do what they are to
pub run_cores-cores-requires-clause-can : goal.run_cores-cores-requires-clause-can
run_cores-cores-requires-clause-can g c κs within =
    let same = base_is c.args.beside.now.table.now c.args.beside.now.script.now c.args.driver
    c.args.layout.now (purpose_of c.args.job.now) c.args.offset c.args.info.now.segments.items
    c.args.dev c.requires.begins c.application_pages-pages.result c.rooms_of-rooms.result
    c.room_for.result c.worker_room.result c.duty_for-duty.result
    c.application_pages-pages.ensures.exact c.rooms_of-rooms.ensures.exact
    c.room_for.ensures.exact c.worker_room.ensures.exact
    (c.duty_for-duty.ensures.exact c.args.layout.now c.requires.begins.table.layout_is) in
    begins_can c.args.beside.now.table.now c.args.beside.now.script.now c.args.driver
    c.args.layout.now (purpose_of c.args.job.now) c.args.offset c.args.info.now.segments.items
    c.args.dev c.requires.begins c.requires.core c.in_ok-gates.left c.in_ok-gates.right
    c.in_ok-gates.gates
    (rw same at c.in_ok-gates.ensures.left) (rw same at c.in_ok-gates.ensures.right)

-- both stay what they are
pub end_leg-requires-clause-left : goal.end_leg-requires-clause-left
end_leg-requires-clause-left g c =
    let same = base_is c.args.beside.now.table.now c.args.beside.now.script.now c.args.driver
    c.args.layout.now (purpose_of c.args.job.now) c.args.offset c.args.info.now.segments.items
    c.args.dev c.requires.begins c.application_pages-pages.result c.rooms_of-rooms.result
    c.room_for.result c.worker_room.result c.duty_for-duty.result
    c.application_pages-pages.ensures.exact c.rooms_of-rooms.ensures.exact
    c.room_for.ensures.exact c.worker_room.ensures.exact
    (c.duty_for-duty.ensures.exact c.args.layout.now c.requires.begins.table.layout_is) in
    kept_left c.args.beside.now.table.now c.args.beside.now.script.now c.args.driver
    c.args.layout.now (purpose_of c.args.job.now) c.args.offset c.args.info.now.segments.items
    c.args.dev c.requires.begins c.requires.core _ same c.in_ok-gates.gates c.in_ok-gates.left
    c.in_ok-gates.right c.run_cores-cores.result.0.0 c.run_cores-cores.result.0.1
    c.run_cores-cores.result.1.0 c.run_cores-cores.result.1.1 c.in_ok-gates.ensures.left
    c.in_ok-gates.ensures.right c.run_cores-cores.ensures.ran

pub end_leg-requires-clause-right : goal.end_leg-requires-clause-right
end_leg-requires-clause-right g c =
    let same = base_is c.args.beside.now.table.now c.args.beside.now.script.now c.args.driver
    c.args.layout.now (purpose_of c.args.job.now) c.args.offset c.args.info.now.segments.items
    c.args.dev c.requires.begins c.application_pages-pages.result c.rooms_of-rooms.result
    c.room_for.result c.worker_room.result c.duty_for-duty.result
    c.application_pages-pages.ensures.exact c.rooms_of-rooms.ensures.exact
    c.room_for.ensures.exact c.worker_room.ensures.exact
    (c.duty_for-duty.ensures.exact c.args.layout.now c.requires.begins.table.layout_is) in
    kept_right c.args.beside.now.table.now c.args.beside.now.script.now c.args.driver
    c.args.layout.now (purpose_of c.args.job.now) c.args.offset c.args.info.now.segments.items
    c.args.dev c.requires.begins c.requires.core _ same c.in_ok-gates.gates c.in_ok-gates.left
    c.in_ok-gates.right c.run_cores-cores.result.0.0 c.run_cores-cores.result.0.1
    c.run_cores-cores.result.1.0 c.run_cores-cores.result.1.1 c.in_ok-gates.ensures.left
    c.in_ok-gates.ensures.right c.run_cores-cores.ensures.ran

-- the device had so many steps at the opening
pub end_leg-requires-clause-base : goal.end_leg-requires-clause-base
end_leg-requires-clause-base g c =
    let same = base_is c.args.beside.now.table.now c.args.beside.now.script.now c.args.driver
    c.args.layout.now (purpose_of c.args.job.now) c.args.offset c.args.info.now.segments.items
    c.args.dev c.requires.begins c.application_pages-pages.result c.rooms_of-rooms.result
    c.room_for.result c.worker_room.result c.duty_for-duty.result
    c.application_pages-pages.ensures.exact c.rooms_of-rooms.ensures.exact
    c.room_for.ensures.exact c.worker_room.ensures.exact
    (c.duty_for-duty.ensures.exact c.args.layout.now c.requires.begins.table.layout_is) in
    kept_base c.args.beside.now.table.now c.args.beside.now.script.now c.args.driver
    c.args.layout.now (purpose_of c.args.job.now) c.args.offset c.args.info.now.segments.items
    c.args.dev c.requires.begins c.requires.core _ same c.in_ok-gates.gates c.in_ok-gates.left
    c.in_ok-gates.right c.run_cores-cores.result.0.0 c.run_cores-cores.result.0.1
    c.run_cores-cores.result.1.0 c.run_cores-cores.result.1.1 c.in_ok-gates.ensures.left
    c.in_ok-gates.ensures.right c.run_cores-cores.ensures.ran _ c.steps-before.ensures.exact

-- from the device to the device
pub returns : goal.returns
returns g c =
    let same = base_is c.args.beside.now.table.now c.args.beside.now.script.now c.args.driver
    c.args.layout.now (purpose_of c.args.job.now) c.args.offset c.args.info.now.segments.items
    c.args.dev c.requires.begins c.application_pages-pages.result c.rooms_of-rooms.result
    c.room_for.result c.worker_room.result c.duty_for-duty.result
    c.application_pages-pages.ensures.exact c.rooms_of-rooms.ensures.exact
    c.room_for.ensures.exact c.worker_room.ensures.exact
    (c.duty_for-duty.ensures.exact c.args.layout.now c.requires.begins.table.layout_is) in
    record {
      leg = outcome c.args.beside.now.table.now c.args.beside.now.script.now c.args.driver
          c.args.layout.now (purpose_of c.args.job.now) c.args.offset c.args.info.now.segments.items
          c.args.dev c.requires.begins c.requires.core _ same c.in_ok-gates.gates c.in_ok-gates.left
          c.in_ok-gates.right c.run_cores-cores.result.0.0 c.run_cores-cores.result.0.1
          c.run_cores-cores.result.1.0 c.run_cores-cores.result.1.1 c.in_ok-gates.ensures.left
          c.in_ok-gates.ensures.right c.run_cores-cores.ensures.ran _ c.whole_by.result c.end_leg.result
          c.steps-before.ensures.exact c.whole_by.ensures.exact c.end_leg.ensures.closed
          c.end_leg.ensures.parked;
      told = λ ended.
          let both = both_ends c.args.beside.now.table.now c.args.beside.now.script.now c.args.driver
          c.args.layout.now (purpose_of c.args.job.now) c.args.offset c.args.info.now.segments.items
          c.args.dev c.requires.begins c.requires.core _ same c.in_ok-gates.gates c.in_ok-gates.left
          c.in_ok-gates.right c.run_cores-cores.result.0.0 c.run_cores-cores.result.0.1
          c.run_cores-cores.result.1.0 c.run_cores-cores.result.1.1 c.in_ok-gates.ensures.left
          c.in_ok-gates.ensures.right c.run_cores-cores.ensures.ran _ c.whole_by.result
          c.end_leg.result c.steps-before.ensures.exact c.whole_by.ensures.exact
          c.end_leg.ensures.closed c.end_leg.ensures.parked ended in
          told_leg (g.P.Pace.told c.args.beside.now.pace.now)
          (ops_for c.args.layout.now (purpose_of c.args.job.now))
          (length c.args.beside.now.script.now) c.run_cores-cores.result.1.0
          c.run_cores-cores.result.1.1
          (few_ops c.args.layout.now (purpose_of c.args.job.now)
          (begins_short c.args.beside.now.table.now c.args.beside.now.script.now c.args.driver
          c.args.layout.now (purpose_of c.args.job.now) c.args.offset
          c.args.info.now.segments.items c.args.dev c.requires.begins)
          (begins_long c.args.beside.now.table.now c.args.beside.now.script.now c.args.driver
          c.args.layout.now (purpose_of c.args.job.now) c.args.offset
          c.args.info.now.segments.items c.args.dev c.requires.begins))
          both.0 both.1 c.run_cores-cores.ensures.driver_told
          c.run_cores-cores.ensures.worker_told;
    }
