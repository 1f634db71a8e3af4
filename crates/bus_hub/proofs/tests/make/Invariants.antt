use Rattle.std.proofs.Common.{◌≡◌, Some}
use Rattle.bus_hub.specs.Hub.{core_of}
use Rattle.bus_hub.proofs.tests.make.Given as goal

-- the step of the core runs, and needs fewer polls each time
abbrev pub invariant-loop : goal.invariant-loop
invariant-loop g l = core_of l.bus.running ≡ Some l.c

abbrev pub decreases-loop : goal.decreases-loop
decreases-loop g l = g.D.Nor.left l.bus.dev
