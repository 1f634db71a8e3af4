-- the seat has only seen more of the run, and did no work
use Rattle.std.proofs.Common.{◌≡◌, []}
use Rattle.park_words.specs.Views.{seat_saw}
use Rattle.cache_gate.specs.Works.{Worked}
use Rattle.cache_gate.proofs.waits.look.Given as goal

abbrev pub invariant-loop : goal.invariant-loop
invariant-loop g l =
    (l.seat ≡ seat_saw l.initial.seat l.seat.view.seen) × Worked [] l.initial.seat.view l.seat.view
