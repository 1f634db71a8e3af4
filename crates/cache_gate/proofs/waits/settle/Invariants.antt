-- the seat has only seen more of the run, or was parked meanwhile, and did no work
use Rattle.std.proofs.Common.{◌≡◌, ◌⊎◌, []}
use Rattle.duo_machine.specs.declared.machine.Phase.TheVariants.{Running}
use Rattle.park_words.specs.Views.{seat_saw, in_phase}
use Rattle.cache_gate.specs.Works.{Worked}
use Rattle.cache_gate.proofs.waits.settle.Given as goal

abbrev pub invariant-loop : goal.invariant-loop
invariant-loop g l =
    ((l.seat ≡ seat_saw l.initial.seat l.seat.view.seen)
    ⊎ (l.seat ≡ in_phase l.initial.seat Running l.seat.view.seen))
    × Worked [] l.initial.seat.view l.seat.view
