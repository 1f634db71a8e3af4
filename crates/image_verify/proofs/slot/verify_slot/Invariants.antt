use Rattle.std.proofs.Common.{◌≡◌, ℕ, List, ◌-◌, ◌≤◌, length, take}
use Rattle.std.specs.Prelude.{min}
use Rattle.image_verify.specs.declared.reader.Reader.{Reader}
use Rattle.image_verify.specs.Walk.{plan}
use Rattle.image_verify.specs.Fed.{HasRead, wanted_by}
use Rattle.image_verify.proofs.SlotFacts.{AtMost}
use Rattle.image_verify.proofs.slot.verify_slot.Given as goal

-- What holds between two pieces of a slot.
pub record Between (v : Reader) (slot : List ℕ) (done more : ℕ) : Type 0 where
  pub within : done ≤ length slot
  pub read : HasRead v (length slot) (take done slot)
  pub most : AtMost (take done slot) (plan (length slot) (take done slot))
  pub wanted : more ≡ min (wanted_by (take done slot) (plan (length slot) (take done slot))) (length slot - done)

abbrev pub invariant-loop-more : goal.invariant-loop-more
invariant-loop-more l = Between l.verifier l.slot l.done l.more

abbrev pub decreases-loop-more : goal.decreases-loop-more
decreases-loop-more l = length l.slot - l.done
