-- the seat has only seen more of the run, and of the entries none is its own
use Rattle.std.proofs.Common.{◌≡◌, []}
use Rattle.park_words.specs.Views.{seat_saw}
use Rattle.park_words.specs.Story.{Ran}
use Rattle.park_words.proofs.tests.start_waiting.Given as goal

abbrev pub invariant-loop : goal.invariant-loop
invariant-loop g l =
    (l.seat ≡ seat_saw l.initial.seat l.seat.view.seen) × Ran [] l.initial.seat.view l.seat.view
