-- the core is the same, and has room for the rounds to come
use Rattle.cache_gate.specs.Rounds.{IsRound}
use Rattle.cache_gate.proofs.tests.erase.Given as goal

abbrev pub invariant-loop-i : goal.invariant-loop-i
invariant-loop-i g l = IsRound 2 0 l.times l.i l.initial.core l.core
