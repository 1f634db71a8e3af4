use Rattle.std.proofs.Common.{ℕ, List, ◌-◌, ◌≤◌, length, take}
use Rattle.image_verify.specs.declared.reader.Reader.{Reader}
use Rattle.image_verify.specs.Fed.{HasRead}
use Rattle.image_verify.proofs.tests.verify_by.Given as goal

-- What holds between two pieces.
pub record Between (v : Reader) (limit : ℕ) (bytes : List ℕ) (done : ℕ) : Type 0 where
  pub within : done ≤ length bytes
  pub read : HasRead v limit (take done bytes)

abbrev pub invariant-loop-done : goal.invariant-loop-done
invariant-loop-done l = Between l.verifier l.limit l.bytes l.done

abbrev pub decreases-loop-done : goal.decreases-loop-done
decreases-loop-done l = length l.bytes - l.done
