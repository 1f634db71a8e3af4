use Rattle.std.proofs.Common.{subst, arith}
use Rattle.bus_hub.specs.declared.journal.Room.{Room}
use Rattle.duo_run.specs.Fresh.{IsFreshIn}
use Rattle.duo_run.proofs.FreshLemmas.{can_fresh}
use Rattle.duo_run.proofs.tests.lone.Goals as goal

-- its duty allows every step
pub run_worker-right-requires : goal.run_worker-right-requires
run_worker-right-requires g c =
    let right = c.in_ok-gates.right in
    record {
      can = rw c.core.ensures (can_fresh _ _ _ (λ p step. tt) c.in-Ok-of_rows.table c.in-Ok.script
          c.in_ok-gates.gates 1 1048576 right
          (subst (λ (room : Room). IsFreshIn c.in_ok-gates.gates 1 room 1048576 right)
          c.worker_room.ensures.exact c.in_ok-gates.ensures.right) c.in-Ok-of_rows.ensures.fits
          (omega arith));
    }
