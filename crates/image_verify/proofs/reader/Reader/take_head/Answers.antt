use Rattle.std.proofs.Common.{◌≡◌, ◌++◌, List, subst, ℕ, ◌∙◌, ap, refl, sym, arith}
use Rattle.image_layout.specs.Segment.{head_of}
use Rattle.sha2.specs.Hashers.{Holds256}
use Rattle.image_verify.specs.Walk.{head_fault}
use Rattle.image_verify.proofs.HeadSteps.{head_bad, head_read}
use Rattle.image_verify.proofs.reader.Reader.take_head.Goals as goal

-- the number of the segment is how many are noted
segment : (limit flag number noted load len end left : ℕ) → number ≡ noted
    → head_fault limit flag noted load len end left ≡ head_fault limit flag number load len end left
segment limit flag number noted load len end left is =
    sym (ap (λ n. head_fault limit flag n load len end left) is)

-- the fault of the head is told
pub returns-in-Some : goal.returns-in-Some
returns-in-Some c = λ limit bytes full.
    let head = c.read-head.ensures.exact ∙ ap head_of (c.copy_from_slice.ensures.after ∙ c.deref.ensures.0) in
    head_bad c.args.self.now limit bytes full c.read-head.result head c.in-Some.bad
    (segment c.args.self.now.limit c.args.self.now.flag _ _ _ _ _ _ c.len-segment.ensures.value ∙ sym c.in-Some.ensures)

-- its data follow
pub returns : goal.returns
returns c = λ limit bytes full.
    let v = c.args.self.now in
    let kept = c.copy_from_slice.ensures.after ∙ c.deref.ensures.0 in
    let head = c.read-head.ensures.exact ∙ ap head_of kept in
    head_read v limit bytes full c.read-head.result head _ c.update.new.self
    (segment v.limit v.flag _ _ _ _ _ _ c.len-segment.ensures.value ∙ sym c.in_default.ensures)
    refl refl refl refl (omega arith) refl c.clear.ensures refl c.push.ensures.items
    (λ m holds. subst (λ (xs : List ℕ). Holds256 c.update.new.self (m ++ xs)) kept (c.update.ensures m holds))
