-- How what a loss of power leaves of a list of steps goes on from step to step.
use Rattle.std.specs.Prelude.{◌≡◌, ◌⊎◌, ◌<◌, List, [], ◌∷◌, ◌++◌, ℕ, All, refl}
use Rattle.std.proofs.Common.{sym, ◌∙◌, ap, subst, inl, inr}
use Rattle.std.proofs.lemmas.List.{append-nil, append_assoc}
use Rattle.nor_device.specs.declared.step.Step.{Step}
use Rattle.nor_device.specs.Flash.{applied, after_steps}
use Rattle.nor_device.specs.Torn.{Torn}
use Rattle.nor_device.proofs.FlashLaws.{after_steps_append}
use Rattle.nor_device.proofs.TornLaws.{torn_small, torn_applied}
use Rattle.crash_images.specs.Crash.{TornByFirst, LeftAfter}

-- before the first step
pub left_begin : (flash : List ℕ) (steps : List Step) → LeftAfter flash steps flash
left_begin flash steps = record { made = []; rest = steps; split = refl; stands = inl refl }

-- after the last
pub left_end : (flash : List ℕ) (steps : List Step)
    → LeftAfter flash steps (after_steps flash steps)
left_end flash steps =
    record { made = steps; rest = []; split = sym (append-nil steps); stands = inl refl }

-- within the first step
pub left_torn : (flash : List ℕ) (step : Step) (steps : List Step) (left : List ℕ)
    → Torn flash step left → LeftAfter flash (step ∷ steps) left
left_torn flash step steps left torn =
    record { made = []; rest = step ∷ steps; split = refl; stands = inr torn }

-- after the first step
pub left_more : (flash : List ℕ) (step : Step) (steps : List Step) (left : List ℕ)
    → LeftAfter (applied flash step) steps left → LeftAfter flash (step ∷ steps) left
left_more flash step steps left after = record {
  made = step ∷ after.made;
  rest = after.rest;
  split = ap (λ (l : List Step). step ∷ l) after.split;
  stands = after.stands;
}

-- with no step the flash stays
pub left_none : (flash left : List ℕ) → LeftAfter flash [] left → left ≡ flash
left_none flash left after = none flash left after.made after.rest after.split after.stands
  where
    none : (f l : List ℕ) (made rest : List Step) → [] ≡ made ++ rest
        → (l ≡ after_steps f made) ⊎ TornByFirst (after_steps f made) rest l → l ≡ f
    none f l [] [] split (inl is) = is
    none f l [] [] split (inr torn) = absurd torn
    none f l [] (s ∷ rest) split stands = absurd (cc split)
    none f l (s ∷ made) rest split stands = absurd (cc split)

-- else power was lost before the first step, within it, or after it
pub left_cases : (flash : List ℕ) (step : Step) (steps : List Step) (left : List ℕ)
    → LeftAfter flash (step ∷ steps) left
    → (left ≡ flash) ⊎ (Torn flash step left ⊎ LeftAfter (applied flash step) steps left)
left_cases flash step steps left after = cases after.made after.rest after.split after.stands
  where
    cases : (made rest : List Step) → step ∷ steps ≡ made ++ rest
        → (left ≡ after_steps flash made) ⊎ TornByFirst (after_steps flash made) rest left
        → (left ≡ flash) ⊎ (Torn flash step left ⊎ LeftAfter (applied flash step) steps left)
    cases [] rest split (inl is) = inl is
    cases [] [] split (inr torn) = absurd torn
    cases [] (s ∷ rest) split (inr torn) = let same : s ≡ step =
        cc split in inr (inl (subst (λ (x : Step). Torn flash x left) same torn))
    cases (s ∷ made) rest split stands =
        let same : s ≡ step = cc split in
        let tail : steps ≡ made ++ rest = cc split in
        inr (inr (record {
          made = made;
          rest = rest;
          split = tail;
          stands = subst (λ (x : Step). (left ≡ after_steps (applied flash x) made)
              ⊎ TornByFirst (after_steps (applied flash x) made) rest left) same stands;
        }))

-- what may be left of some steps may be left where others follow
pub left_front : (flash : List ℕ) (front back : List Step) (left : List ℕ)
    → LeftAfter flash front left → LeftAfter flash (front ++ back) left
left_front flash front back left after = record {
  made = after.made;
  rest = after.rest ++ back;
  split = ap (λ (l : List Step). l ++ back) after.split ∙ append_assoc after.made after.rest back;
  stands = longer after.rest after.stands;
}
  where
    longer : (rest : List Step)
        → (left ≡ after_steps flash after.made)
        ⊎ TornByFirst (after_steps flash after.made) rest left
        → (left ≡ after_steps flash after.made)
        ⊎ TornByFirst (after_steps flash after.made) (rest ++ back) left
    longer rest (inl is) = inl is
    longer [] (inr torn) = absurd torn
    longer (s ∷ rest) (inr torn) = inr torn

-- and where others went before
pub left_back : (flash : List ℕ) (front back : List Step) (left : List ℕ)
    → LeftAfter (after_steps flash front) back left → LeftAfter flash (front ++ back) left
left_back flash front back left after = record {
  made = front ++ after.made;
  rest = after.rest;
  split = ap (λ (l : List Step). front ++ l) after.split
      ∙ sym (append_assoc front after.made after.rest);
  stands = subst (λ (f : List ℕ). (left ≡ f) ⊎ TornByFirst f after.rest left)
      (sym (after_steps_append flash front after.made)) after.stands;
}

-- of a longer list nothing else may be left
pub left_append : (flash : List ℕ) (front back : List Step) (left : List ℕ)
    → LeftAfter flash (front ++ back) left
    → LeftAfter flash front left ⊎ LeftAfter (after_steps flash front) back left
left_append flash [] back left after = inr after
left_append flash (step ∷ front) back left after =
    elim (left_cases flash step (front ++ back) left after) [
      | inl is ↦ inl (subst (λ (f : List ℕ). LeftAfter flash (step ∷ front) f) (sym is)
          (left_begin flash (step ∷ front)))
      | inr more ↦ elim more [
        | inl torn ↦ inl (left_torn flash step front left torn)
        | inr later ↦ elim (left_append (applied flash step) front back left later) [
          | inl in_front ↦ inl (left_more flash step front left in_front)
          | inr in_back ↦ inr in_back
        ]
      ]
    ]

-- what is left of a flash of bytes is one of bytes
pub left_small : (flash : List ℕ) (steps : List Step) (left : List ℕ) → LeftAfter flash steps left
    → All (λ b. b < 256) flash → All (λ b. b < 256) left
left_small flash [] left after small =
    subst (λ (f : List ℕ). All (λ b. b < 256) f) (sym (left_none flash left after)) small
left_small flash (step ∷ steps) left after small =
    elim (left_cases flash step steps left after) [
      | inl is ↦ subst (λ (f : List ℕ). All (λ b. b < 256) f) (sym is) small
      | inr more ↦ elim more [
        | inl torn ↦ torn_small flash left step torn small
        | inr later ↦ left_small (applied flash step) steps left later
            (torn_small flash (applied flash step) step (torn_applied flash step) small)
      ]
    ]
