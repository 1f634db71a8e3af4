-- the core is the same, and has room for the rounds to come
use Rattle.cache_gate.specs.Rounds.{IsRound}
use Rattle.cache_gate.proofs.tests.fetch.Given as goal

abbrev pub invariant-loop-i : goal.invariant-loop-i
invariant-loop-i g l = IsRound 1 4 l.times l.i l.initial.core l.core
