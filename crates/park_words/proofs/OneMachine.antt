-- Words and views stand for one machine, it is safe, and so is the run that leads to it.
use Rattle.std.proofs.Common.{◌≡◌, ℕ, ◌∙◌, ap, subst, sym, refl, Bool, true, false, List, [], ◌∷◌, slice_index, Option}
use mathlib.Core.Option.{some-injective}
use lib.ListN.{get_elem?}
use Rattle.core_state.specs.declared.registers.Record.{Record}
use Rattle.park_words.specs.Story.{machine_of}
use Rattle.park_words.specs.Rule.{RunIs, StandForOneSafeMachine}
use Rattle.park_words.proofs.Stories.{story_safe, stories_are_safe}
use Rattle.park_words.proofs.Exchanges.{same_gate}

-- the running step is told by the views
one_run : {r r' : Option ℕ} {c o : ℕ} (a b : Bool) → RunIs r c o a b → RunIs r' c o a b → r ≡ r'
one_run true b p q = p.own refl ∙ sym (q.own refl)
one_run false true p q = p.other refl ∙ sym (q.other refl)
one_run false false p q = p.none refl refl ∙ sym (q.none refl refl)

-- two equal rows of two views have equal views
first_of : {A : Type 0} (a b c d : A) → a ∷ b ∷ [] ≡ c ∷ d ∷ [] → a ≡ c
first_of a b c d e = some-injective a c (ap (λ vs. get_elem? vs 0) e)

second_of : {A : Type 0} (a b c d : A) → a ∷ b ∷ [] ≡ c ∷ d ∷ [] → b ≡ d
second_of a b c d e = some-injective b d (ap (λ vs. get_elem? vs 1) e)

pub one_safe_machine : {S B D : Type 0} (records : S → ℕ → Record) (runs : S → Option ℕ)
    (stands : S → B → List D → List D → Type 0) → StandForOneSafeMachine records runs stands
one_safe_machine records runs stands = λ s p q.
    let a = p.there in let b = q.there in
    let words = sym a.numbers ∙ b.numbers in
    let views = sym p.views ∙ q.views in
    let lock = ap (λ ws. slice_index ws 0) words in
    let gate = same_gate a.gate b.gate (ap (λ ws. slice_index ws 2) words) in
    let gate' = same_gate a.gate' b.gate' (ap (λ ws. slice_index ws 3) words) in
    let left = first_of p.left p.right q.left q.right views in
    let right = second_of p.left p.right q.left q.right views in
    let run = one_run q.left.stepping q.right.stepping
    (subst (λ (z : Bool × Bool). RunIs a.run 0 1 z.0 z.1)
    (λ k. ((left k).stepping, (right k).stepping)) a.pairing.step) b.pairing.step in (
      story_safe _ _ _ _ _ _ a.story,
      λ k. machine_of (lock k) (gate k) (gate' k) (left k).phase (right k).phase (left k).registers
          (right k).registers (run k),
      stories_are_safe _ _ _ _ _ _ a.story,
    )
