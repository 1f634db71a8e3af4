-- The image is written up to what is left.
use Rattle.std.proofs.Common.{◌≡◌, length}
use Rattle.flash_ops.specs.Told.{ToldOf, count_behind}
use Rattle.duo_run.specs.Paced.{pieces_of}
use Rattle.duo_run.proofs.WriteAllLemmas.{IsUpTo}
use Rattle.duo_run.proofs.driver.write_all.Given as goal

abbrev pub invariant-loop-rest : goal.invariant-loop-rest
invariant-loop-rest g l = record {
  up : IsUpTo l.fn.beat.probe l.fn.image l.fn.ota l.ota l.rest;
  probe : l.beat.probe ≡ l.fn.beat.probe;
  pace : l.beat.pace ≡ l.fn.beat.pace;
  ops : count_behind l.beat.ops (pieces_of (length l.rest))
      ≡ count_behind l.fn.beat.ops (pieces_of (length l.fn.image));
  none : length l.rest ≡ length l.fn.image → l.beat.ops ≡ l.fn.beat.ops;
  told : ToldOf (g.P.Pace.told l.fn.beat.pace.now) l.fn.beat.ops l.beat.ops;
}

abbrev pub decreases-loop-rest : goal.decreases-loop-rest
decreases-loop-rest g l = length l.rest
