-- What a step does, byte by byte.
use Rattle.std.specs.Prelude.{◌≡◌, ◌⊎◌, ℕ, ◌-◌, ◌<◌, ◌≤◌, true, false, List, [], ◌∷◌, ◌++◌, length, take, drop, slice_index, bit_and, refl}
use Rattle.std.proofs.Common.{zero, suc, get_or, sym, ◌∙◌, ap, inl, inr, arith, length-drop}
use Rattle.std.proofs.lemmas.List.{length-take, length-replicate, get_or-replicate}
use Rattle.std.proofs.lemmas.Bool.{cases_lt}
use Rattle.std.proofs.lemmas.Bool.Decides.{nat_tests}
use Rattle.nor_device.specs.declared.step.Step.{Step}
use Rattle.nor_device.specs.declared.step.Step.TheVariants.{Erase, Program, Block}
use Rattle.nor_device.specs.Flash.{start_of, len_of, end_of, anded, part_after, applied, after_steps, is_in_range, changed_byte, byte_after}
use Rattle.nor_device.proofs.Splice.{length-spliced, spliced_below, spliced_within, spliced_above, part_byte}

-- ANDing keeps the length
pub length-anded : (old new : List ℕ) → length (anded old new) ≡ length old
length-anded [] new = refl
length-anded (byte ∷ old) [] = refl
length-anded (byte ∷ old) (data_byte ∷ new) = omega (arith, length-anded old new)

-- ANDing byte by byte
pub get_or-anded : (old new : List ℕ) (k : ℕ) → k < length old → k < length new
    → get_or (anded old new) k 0 ≡ bit_and (get_or old k 0) (get_or new k 0)
get_or-anded [] new k in_old in_new = absurd (omega arith)
get_or-anded (byte ∷ old) [] k in_old in_new = absurd (omega arith)
get_or-anded (byte ∷ old) (data_byte ∷ new) zero in_old in_new = refl
get_or-anded (byte ∷ old) (data_byte ∷ new) (suc k) in_old in_new =
    get_or-anded old new k (omega arith) (omega arith)

-- a step keeps the length of what it changes
pub length-part_after : (step : Step) (part : List ℕ) → length (part_after step part) ≡ length part
length-part_after (Erase sector) part = length-replicate (length part) 255
length-part_after (Program at page) part = length-anded part page
length-part_after (Block block) part = length-replicate (length part) 255

-- and changes each byte of it so
pub get_or-part_after : (step : Step) (part : List ℕ) (k : ℕ) → k < length part → k < len_of step
    → get_or (part_after step part) k 0 ≡ changed_byte step k (get_or part k 0)
get_or-part_after (Erase sector) part k in_part in_range =
    get_or-replicate (length part) k 255 0 in_part
get_or-part_after (Program at page) part k in_part in_range =
    get_or-anded part page k in_part in_range
get_or-part_after (Block block) part k in_part in_range =
    get_or-replicate (length part) k 255 0 in_part

-- a step keeps the length of the flash
pub length_applied : (flash : List ℕ) (step : Step) → length (applied flash step) ≡ length flash
length_applied flash step =
    length-spliced flash (start_of step) (len_of step) _
    (length-part_after step (take (len_of step) (drop (start_of step) flash)))

-- so do several
pub length-after_steps : (flash : List ℕ) (steps : List Step)
    → length (after_steps flash steps) ≡ length flash
length-after_steps flash [] = refl
length-after_steps flash (step ∷ steps) = length-after_steps (applied flash step) steps
    ∙ length_applied flash step

-- first some steps, then the others
pub after_steps_append : (flash : List ℕ) (made rest : List Step)
    → after_steps flash (made ++ rest) ≡ after_steps (after_steps flash made) rest
after_steps_append flash [] rest = refl
after_steps_append flash (step ∷ made) rest = after_steps_append (applied flash step) made rest

-- outside its range a step leaves the byte
pub byte_after_outside : (step : Step) (i byte : ℕ) → (i < start_of step) ⊎ (end_of step ≤ i)
    → byte_after step i byte ≡ byte
byte_after_outside step i byte (inl low) = let out : is_in_range step i ≡ false =
    grind (arith, nat_tests) in rw out
byte_after_outside step i byte (inr high) = let out : is_in_range step i ≡ false =
    grind (arith, nat_tests) in rw out

-- in its range it changes it
pub byte_after_inside : (step : Step) (i byte : ℕ) → start_of step ≤ i → i < end_of step
    → byte_after step i byte ≡ changed_byte step (i - start_of step) byte
byte_after_inside step i byte from to = let within : is_in_range step i ≡ true =
    grind (arith, nat_tests) in rw within

-- the byte at each address after a step
pub byte_applied : (flash : List ℕ) (step : Step) (i : ℕ) → i < length flash
    → slice_index (applied flash step) i ≡ byte_after step i (slice_index flash i)
byte_applied flash step i inside =
    let start = start_of step in
    let len = len_of step in
    let part = take len (drop start flash) in
    let mid = part_after step part in
    let same = length-part_after step part in
    elim (cases_lt i (start_of step)) [
      | inl low ↦ spliced_below flash start len mid same i low inside
          ∙ sym (byte_after_outside step i (get_or flash i 0) (inl low))
      | inr from ↦ elim (cases_lt i (end_of step)) [
        | inl to ↦
            let in_part : i - start < length part =
            omega (arith, length-take len (drop start flash), length-drop start flash) in
            let in_range : i - start < len = omega arith in
            spliced_within flash start len mid same i from to inside
            ∙ get_or-part_after step part (i - start) in_part in_range
            ∙ ap (λ (b : ℕ). changed_byte step (i - start) b)
            (part_byte flash start len mid same i from to)
            ∙ sym (byte_after_inside step i (get_or flash i 0) from to)
        | inr past ↦ spliced_above flash start len mid same i past inside
            ∙ sym (byte_after_outside step i (get_or flash i 0) (inr past))
      ]
    ]
