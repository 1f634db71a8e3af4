-- What stands beside another core is, where that core may not write, what a loss of power leaves of
-- the steps; so it boots the same.
use Rattle.std.proofs.Common.{◌≡◌, ◌⊎◌, inl, inr, Bool, true, false, ℕ, zero, suc, ◌-◌, ◌<◌, ◌≤◌, List, [], ◌∷◌, ◌++◌, length, slice_index, refl, sym, ap, ◌∙◌, subst, arith}
use Rattle.std.specs.Prelude.{if◌then◌else◌}
use Rattle.std.proofs.lemmas.Bool.{cases_Bool, cases_lt}
use Rattle.std.proofs.lemmas.List.{ext_get_or}
use Rattle.nor_device.specs.declared.step.Step.{Step}
use Rattle.nor_device.specs.Flash.{after_steps, applied, end_of, start_of}
use Rattle.nor_device.specs.Torn.{Torn, TornAt}
use Rattle.nor_device.proofs.FlashLaws.{after_steps_append, byte_applied, length-after_steps, length_applied}
use Rattle.nor_device.proofs.TornLaws.{byte_after_torn, torn_byte_twice, torn_self}
use Rattle.crash_images.specs.Crash.{LeftAfter}
use Rattle.crash_images.specs.Agrees.{Agrees}
use Rattle.update_steps.specs.Beside.{IsSpared, StandsBeside, TornByNext}

-- ---- the laws of what stands

-- a byte is torn of itself
torn_here : (step : Step) (flash : List ℕ) (i : ℕ) → i < length flash
    → TornAt step i (slice_index flash i) (slice_index flash i)
torn_here step flash i inside = (torn_self flash step).byte i inside

-- and by the first of any steps
next_here : (steps : List Step) (flash : List ℕ) (i : ℕ) → i < length flash
    → TornByNext steps i (slice_index flash i) (slice_index flash i)
next_here [] flash i inside = refl
next_here (step ∷ steps) flash i inside = torn_here step flash i inside

-- a byte that is torn twice is torn once
torn_at_twice : (step : Step) (i a b c : ℕ) → TornAt step i a b → TornAt step i b c
    → TornAt step i a c
torn_at_twice step i a b c one two = record {
  outside = λ out. two.outside out ∙ one.outside out;
  inside = λ from to. torn_byte_twice step (i - start_of step) a b c (one.inside from to)
      (two.inside from to);
}

-- at the first flash nothing is made
pub beside_first : (flash : List ℕ) (steps : List Step) (others : ℕ → Bool)
    → StandsBeside flash [] steps others flash
beside_first flash steps others = record {
  same_length = refl;
  byte = λ i inside spared. next_here steps flash i inside;
}

-- the next step may be torn
pub beside_torn : (first : List ℕ) (made : List Step) (step : Step) (rest : List Step)
    (others : ℕ → Bool) (now left : List ℕ) → StandsBeside first made (step ∷ rest) others now
    → Torn now step left → StandsBeside first made (step ∷ rest) others left
beside_torn first made step rest others now left stands torn = record {
  same_length = torn.same_length ∙ stands.same_length;
  byte = λ i inside spared.
      let there : i < length now = omega (arith, inside, stands.same_length) in
      torn_at_twice step i (slice_index (after_steps first made) i) (slice_index now i)
      (slice_index left i) (stands.byte i inside spared) (torn.byte i there);
}

-- or be made
pub beside_made : (first : List ℕ) (made : List Step) (step : Step) (rest : List Step)
    (others : ℕ → Bool) (now : List ℕ) → StandsBeside first made (step ∷ rest) others now
    → StandsBeside first (made ++ (step ∷ [])) rest others (applied now step)
beside_made first made step rest others now stands = record {
  same_length = length_applied now step ∙ stands.same_length;
  byte = λ i inside spared.
      let mid = after_steps first made in
      let there : i < length now = omega (arith, inside, stands.same_length) in
      let within : i < length mid = omega (arith, inside, length-after_steps first made) in
      let behind : i < length (applied mid step) = omega (arith, within, length_applied mid step) in
      let same : slice_index (applied now step) i ≡ slice_index (applied mid step) i =
      byte_applied now step i there
      ∙ byte_after_torn step i (slice_index mid i) (slice_index now i) (stands.byte i inside spared)
      ∙ sym (byte_applied mid step i within) in
      subst (λ (f : List ℕ). TornByNext rest i (slice_index f i) (slice_index (applied now step) i))
      (sym (after_steps_append first made (step ∷ [])))
      (subst (λ b. TornByNext rest i (slice_index (applied mid step) i) b) (sym same)
      (next_here rest (applied mid step) i behind));
}

-- and a step of the other core, torn or made, changes nothing of it
pub beside_other : (first : List ℕ) (made rest : List Step) (others : ℕ → Bool) (step : Step)
    (now left : List ℕ) → StandsBeside first made rest others now
    → ((i : ℕ) → start_of step ≤ i → i < end_of step → others i ≡ true) → Torn now step left
    → StandsBeside first made rest others left
beside_other first made rest others step now left stands own torn = record {
  same_length = torn.same_length ∙ stands.same_length;
  byte = λ i inside spared.
      let there : i < length now = omega (arith, inside, stands.same_length) in
      let same : slice_index left i ≡ slice_index now i = (torn.byte i there).outside (out i spared)
      in
      subst (λ b. TornByNext rest i (slice_index (after_steps first made) i) b) (sym same)
      (stands.byte i inside spared);
}
  where
    out : (i : ℕ) → others i ≡ false → (i < start_of step) ⊎ (end_of step ≤ i)
    out i spared = elim (cases_lt i (start_of step)) [
      | inl low ↦ inl low
      | inr from ↦ elim (cases_lt i (end_of step)) [
        | inl to ↦ absurd (let is = own i from to in cc)
        | inr past ↦ inr past
      ]
    ]

-- ---- the flash without the other core

-- the bytes of one list where the other core may write, and of another elsewhere
abbrev pub mixed : (ℕ → Bool) → List ℕ → List ℕ → List ℕ
mixed others [] now = []
mixed others (m ∷ mid) [] = m ∷ mid
mixed others (m ∷ mid) (n ∷ now) =
    (if others zero then m else n) ∷ mixed (λ i. others (suc i)) mid now

mixed_length : (others : ℕ → Bool) (mid now : List ℕ) → length (mixed others mid now) ≡ length mid
mixed_length others [] now = refl
mixed_length others (m ∷ mid) [] = refl
mixed_length others (m ∷ mid) (n ∷ now) = ap suc (mixed_length (λ i. others (suc i)) mid now)

mixed_byte : (others : ℕ → Bool) (mid now : List ℕ) (i : ℕ) → i < length mid
    → length now ≡ length mid
    → slice_index (mixed others mid now) i
    ≡ (if others i then slice_index mid i else slice_index now i)
mixed_byte others [] now i inside same = absurd (omega arith)
mixed_byte others (m ∷ mid) [] i inside same = absurd (omega arith)
mixed_byte others (m ∷ mid) (n ∷ now) zero inside same = refl
mixed_byte others (m ∷ mid) (n ∷ now) (suc i) inside same =
    mixed_byte (λ i. others (suc i)) mid now i (omega arith) (omega arith)

module _ (first : List ℕ) (made rest : List Step) (others : ℕ → Bool) (now : List ℕ)
    (stands : StandsBeside first made rest others now) where
  abbrev pub mid : List ℕ
  mid = after_steps first made

  abbrev pub alone : List ℕ
  alone = mixed others mid now

  long : length mid ≡ length first
  long = length-after_steps first made

  size : length now ≡ length mid
  size = stands.same_length ∙ sym long

  at_other : (i : ℕ) → i < length mid → others i ≡ true → slice_index alone i ≡ slice_index mid i
  at_other i inside is = mixed_byte others mid now i inside size
      ∙ ap (λ t. if t then slice_index mid i else slice_index now i) is

  at_own : (i : ℕ) → i < length mid → others i ≡ false → slice_index alone i ≡ slice_index now i
  at_own i inside is = mixed_byte others mid now i inside size
      ∙ ap (λ t. if t then slice_index mid i else slice_index now i) is

  -- it agrees with the flash where the other core may not write
  pub alone_agrees : Agrees (IsSpared others) alone now
  alone_agrees = record {
    same_length = size ∙ sym (mixed_length others mid now);
    byte = λ i inside spared.
        sym (at_own i (omega (arith, inside, mixed_length others mid now)) spared);
  }

  -- each of its bytes is one that the next step may leave
  alone_next : (i : ℕ) → i < length mid
      → TornByNext rest i (slice_index mid i) (slice_index alone i)
  alone_next i inside = elim (cases_Bool (others i)) [
    | inl p ↦ subst (λ b. TornByNext rest i (slice_index mid i) b) (sym (at_other i inside p))
        (next_here rest mid i inside)
    | inr p ↦ subst (λ b. TornByNext rest i (slice_index mid i) b) (sym (at_own i inside p))
        (stands.byte i (omega (arith, inside, long)) p)
  ]

  -- so a loss of power may leave it of the steps
  pub alone_left : LeftAfter first (made ++ rest) alone
  alone_left = by rest alone_next
    where
      by : (next : List Step)
          → ((i : ℕ) → i < length mid → TornByNext next i (slice_index mid i) (slice_index alone i))
          → LeftAfter first (made ++ next) alone
      by [] bytes = record {
        made = made;
        rest = [];
        split = refl;
        stands = inl (ext_get_or 0 alone mid (mixed_length others mid now)
            (λ i inside. bytes i (omega (arith, inside, mixed_length others mid now))));
      }
      by (step ∷ steps) bytes = record {
        made = made;
        rest = step ∷ steps;
        split = refl;
        stands = inr (record { same_length = mixed_length others mid now; byte = bytes });
      }

-- behind all of the steps it is the flash that they leave
pub alone_none : (first : List ℕ) (made : List Step) (others : ℕ → Bool) (now : List ℕ)
    (stands : StandsBeside first made [] others now)
    → alone first made [] others now stands ≡ after_steps first made
alone_none first made others now stands =
    let mid = after_steps first made in
    ext_get_or 0 (mixed others mid now) mid (mixed_length others mid now)
    (λ i inside. alone_next first made [] others now stands i
    (omega (arith, inside, mixed_length others mid now)))
