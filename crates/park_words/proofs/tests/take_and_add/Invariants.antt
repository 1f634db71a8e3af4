use Rattle.std.proofs.Common.{◌≡◌, false}
use Rattle.park_words.proofs.tests.take_and_add.Given as goal

abbrev pub invariant-loop : goal.invariant-loop
invariant-loop g l =
    (l.seat.table ≡ l.initial.seat.table) × (l.seat.view.phase ≡ l.initial.seat.view.phase)
    × (l.seat.view.turn ≡ false)
