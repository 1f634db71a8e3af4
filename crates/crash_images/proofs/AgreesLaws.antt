-- What stays of a flash, from step to step and from part to part.
use Rattle.std.specs.Prelude.{◌≡◌, ℕ, ◌+◌, ◌<◌, ◌≤◌, List, [], ◌∷◌, length, drop, slice_index, refl}
use Rattle.std.proofs.Common.{sym, ◌∙◌, subst, inl, inr, arith, length-drop}
use Rattle.std.proofs.lemmas.List.{ext_get_or, length-take, get_or-take, get_or-drop}
use Rattle.nor_device.specs.declared.step.Step.{Step}
use Rattle.nor_device.specs.Flash.{start_of, end_of, applied}
use Rattle.nor_device.specs.Torn.{Torn}
use Rattle.nor_device.specs.Nor.{part_of}
use Rattle.nor_device.proofs.TornLaws.{torn_at_small, torn_applied}
use Rattle.crash_images.specs.Crash.{LeftAfter}
use Rattle.crash_images.specs.Agrees.{Agrees, IsBeside, Covers, StepsWithin, ChangesWithin}
use Rattle.crash_images.proofs.LeftLaws.{left_none, left_cases}

-- a flash agrees with itself
pub agrees_self : (Stays : ℕ → Type 0) (flash : List ℕ) → Agrees Stays flash flash
agrees_self Stays flash = record { same_length = refl; byte = λ i inside stays. refl }

-- one change after the other
pub agrees_twice : (Stays : ℕ → Type 0) (first second third : List ℕ) → Agrees Stays first second
    → Agrees Stays second third → Agrees Stays first third
agrees_twice Stays first second third one two = record {
  same_length = two.same_length ∙ one.same_length;
  byte = λ i inside stays. let within : i < length second =
      omega (arith, inside, one.same_length) in two.byte i within stays ∙ one.byte i inside stays;
}

-- where fewer addresses stay
pub agrees_fewer : (Stays Fewer : ℕ → Type 0) (old new : List ℕ) → ((i : ℕ) → Fewer i → Stays i)
    → Agrees Stays old new → Agrees Fewer old new
agrees_fewer Stays Fewer old new fewer agrees = record {
  same_length = agrees.same_length;
  byte = λ i inside stays. agrees.byte i inside (fewer i stays);
}

-- a part whose addresses stay is the same
pub agrees_part : (Stays : ℕ → Type 0) (old new : List ℕ) (at len : ℕ) → Covers Stays at len
    → Agrees Stays old new → part_of new at len ≡ part_of old at len
agrees_part Stays old new at len covers agrees =
    ext_get_or 0 (part_of new at len) (part_of old at len)
    (omega (
      arith,
      agrees.same_length,
      length-take len (drop at new),
      length-drop at new,
      length-take len (drop at old),
      length-drop at old,
    ))
    (λ i inside.
    let short : i < len = omega (arith, inside, length-take len (drop at new)) in
    get_or-take len (drop at new) i 0 short ∙ get_or-drop at new i 0
    ∙ agrees.byte (at + i) (omega (
      arith,
      inside,
      agrees.same_length,
      length-take len (drop at new),
      length-drop at new,
    )) (covers (at + i) (omega arith) (omega arith))
    ∙ sym (get_or-take len (drop at old) i 0 short ∙ get_or-drop at old i 0))

-- a range in a range
pub beside_wider : (start end low high i : ℕ) → low ≤ start → end ≤ high → IsBeside low high i
    → IsBeside start end i
beside_wider start end low high i from to (inl below) = inl (omega arith)
beside_wider start end low high i from to (inr above) = inr (omega arith)

-- a torn flash has changed only in the step's range
pub within_of_torn : (flash left : List ℕ) (step : Step) → Torn flash step left
    → ChangesWithin (start_of step) (end_of step) flash left
within_of_torn flash left step torn = record {
  same =
      record {
        same_length = torn.same_length;
        byte = λ i inside out. (torn.byte i inside).outside out;
      };
  small = λ i inside small. torn_at_small step i (slice_index flash i) (slice_index left i)
      (torn.byte i inside) small;
}

-- a flash has not changed at all
pub within_self : (start end : ℕ) (flash : List ℕ) → ChangesWithin start end flash flash
within_self start end flash =
    record { same = agrees_self (IsBeside start end) flash; small = λ i inside small. small }

-- a wider range
pub within_wider : (start end low high : ℕ) (old new : List ℕ) → low ≤ start → end ≤ high
    → ChangesWithin start end old new → ChangesWithin low high old new
within_wider start end low high old new from to within = record {
  same = agrees_fewer (IsBeside start end) (IsBeside low high) old new
      (λ i out. beside_wider start end low high i from to out) within.same;
  small = within.small;
}

-- one change after the other
pub within_twice : (start end : ℕ) (first second third : List ℕ)
    → ChangesWithin start end first second → ChangesWithin start end second third
    → ChangesWithin start end first third
within_twice start end first second third one two = record {
  same = agrees_twice (IsBeside start end) first second third one.same two.same;
  small = λ i inside small. let there : i < length second =
      omega (arith, inside, one.same.same_length) in two.small i there (one.small i inside small);
}

-- what a loss of power leaves of steps has changed only in a range that holds theirs
pub left_within : (start end : ℕ) (flash : List ℕ) (steps : List Step) (left : List ℕ)
    → StepsWithin start end steps → LeftAfter flash steps left → ChangesWithin start end flash left
left_within start end flash [] left within after =
    subst (λ (f : List ℕ). ChangesWithin start end flash f) (sym (left_none flash left after))
    (within_self start end flash)
left_within start end flash (step ∷ steps) left within after =
    elim (left_cases flash step steps left after) [
      | inl is ↦
          subst (λ (f : List ℕ). ChangesWithin start end flash f) (sym is)
          (within_self start end flash)
      | inr more ↦ elim more [
        | inl torn ↦ within_wider (start_of step) (end_of step) start end flash left
            within.0.from within.0.to (within_of_torn flash left step torn)
        | inr later ↦ within_twice start end flash (applied flash step) left
            (within_wider (start_of step) (end_of step) start end flash (applied flash step)
            within.0.from within.0.to
            (within_of_torn flash (applied flash step) step (torn_applied flash step)))
            (left_within start end (applied flash step) steps left within.1 later)
      ]
    ]

-- so the addresses beside the range agree
pub left_agrees : (start end : ℕ) (flash : List ℕ) (steps : List Step) (left : List ℕ)
    → StepsWithin start end steps → LeftAfter flash steps left
    → Agrees (IsBeside start end) flash left
left_agrees start end flash steps left within after =
    (left_within start end flash steps left within after).same
