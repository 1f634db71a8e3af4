-- the seat has only seen more of the run, did no work, and its turns kept what they keep
use Rattle.std.proofs.Common.{◌≡◌, []}
use Rattle.cache_gate.specs.Works.{Worked}
use Rattle.cache_gate.specs.Own.{held_of, later_on}
use Rattle.cache_gate.proofs.waits.lock.Given as goal

abbrev pub invariant-loop : goal.invariant-loop
invariant-loop g l =
    (held_of l.seat ≡ later_on (held_of l.initial.seat) l.seat.view.seen)
    × Worked [] l.initial.seat.view l.seat.view
    × (g.H.Parked.kept l.parked ≡ g.H.Parked.kept l.initial.parked)
