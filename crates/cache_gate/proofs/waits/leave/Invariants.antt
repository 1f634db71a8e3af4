-- the seat has only seen more of the run, did no work, and its turns kept what they keep
use Rattle.std.proofs.Common.{◌≡◌, []}
use Rattle.park_words.specs.Views.{seat_saw}
use Rattle.cache_gate.specs.Works.{Worked}
use Rattle.cache_gate.proofs.waits.leave.Given as goal

abbrev pub invariant-loop : goal.invariant-loop
invariant-loop g l =
    (l.seat ≡ seat_saw l.initial.seat l.seat.view.seen) × Worked [] l.initial.seat.view l.seat.view
    × (g.H.Parked.kept l.parked ≡ g.H.Parked.kept l.initial.parked)
