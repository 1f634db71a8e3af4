use Rattle.std.proofs.Common.{arith}
use Rattle.duo_run.proofs.RoomLemmas.{counted_next, entries_most}
use Rattle.duo_run.proofs.room.worker_room.Goals as goal

-- no more than the whole script has
pub overflow_add-entries : goal.overflow_add-entries
overflow_add-entries c =
    let next = counted_next c.args.script.now c.loop-i.i c.loop-i.entries c.loop-i.bytes
    c.action-action.result c.action-action.ensures.exact c.action-action.ensures.bounds
    c.loop-i.invariant in
    let e = next.entries_are in
    let most = entries_most c.args.script.now in
    omega arith

-- one action more
pub loop-i-preserved : goal.loop-i-preserved
loop-i-preserved c =
    rw (c.entries_in-entries.ensures.exact, c.bytes_in-bytes.ensures.exact)
    (counted_next c.args.script.now c.loop-i.i c.loop-i.entries c.loop-i.bytes
    c.action-action.result c.action-action.ensures.exact c.action-action.ensures.bounds
    c.loop-i.invariant)

-- all of them
pub returns-clause-entries : goal.returns-clause-entries
returns-clause-entries c =
    let e = c.loop-i.invariant.entries_are in
    let most = entries_most c.args.script.now in
    omega arith
