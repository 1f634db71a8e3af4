use Rattle.std.proofs.Common.{ℕ, List, ◌++◌, ◌-◌, ◌≤◌, length, take}
use Rattle.image_verify.specs.declared.reader.Reader.{Reader}
use Rattle.image_verify.specs.Fed.{IsFed, Known}
use Rattle.image_verify.proofs.reader.Reader.feed.Given as goal

-- What holds between two steps.
pub record Between (before now : Reader) (piece : List ℕ) (done : ℕ) : Type 0 where
  pub known : Known now
  pub within : done ≤ length piece
  pub fed : (limit : ℕ) (bytes : List ℕ) → IsFed before limit bytes
      → IsFed now limit (bytes ++ take done piece)

abbrev pub invariant-loop-done : goal.invariant-loop-done
invariant-loop-done l = Between l.fn.self l.self l.piece l.done

abbrev pub decreases-loop-done : goal.decreases-loop-done
decreases-loop-done l = length l.piece - l.done
