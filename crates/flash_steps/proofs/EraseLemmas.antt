-- The steps of an erase, and a write to what is erased.
use Rattle.std.proofs.Common.{◌≡◌, ◌≤◌, ◌<◌, ℕ, zero, suc, ◌+◌, ◌-◌, ◌*◌, ◌/◌, ◌%◌, List, [], ◌∷◌, ◌++◌, length, take, drop, get_or, inl, inr, refl, sym, ap, subst, ◌∙◌, arith, length-drop}
use Rattle.std.specs.Prelude.{bit_and, replicate, slice_index, ◌⊎◌}
use Rattle.std.specs.List.{All, AllByRecursion}
use Rattle.std.proofs.Math.Nat.{mod-eq_of_lt}
use Rattle.std.proofs.lemmas.Bool.{cases_lt}
use Rattle.std.proofs.lemmas.List.{ext_get_or, get_or-replicate, length-replicate, length-take}
use Rattle.std.proofs.lemmas.Nat.{and_comm, and_mask}
use Rattle.nor_device.specs.declared.step.Step.TheVariants.{Erase, Program}
use Rattle.nor_device.specs.Flash.{IsErase, after_steps, applied}
use Rattle.nor_device.proofs.FlashLaws.{byte_after_inside, byte_after_outside, after_steps_append, byte_applied, length-after_steps, length_applied}
use Rattle.nor_device.proofs.Splice.{length-spliced, spliced_above, spliced_below, spliced_within}
use Rattle.flash_steps.specs.Steps.{FollowOn, IsErasedAt, LiesIn, erase_steps, erases, with_part, write_steps}
use Rattle.flash_steps.proofs.FollowLemmas.{lie_in}
use Rattle.flash_steps.proofs.WriteLemmas.{whole_write}

-- ---- the steps of an erase

count_of_erases : (n sector : ℕ) → length (erases n sector) ≡ n
unfolding erases
count_of_erases zero sector = refl
count_of_erases (suc n) sector = ap suc (count_of_erases n (sector + 1))

-- there is an erase for each sector
pub count_of_erase : (at len : ℕ) → length (erase_steps at len) ≡ len / 4096
unfolding erase_steps
count_of_erase at len = count_of_erases (len / 4096) (at / 4096)

are_erases : (n sector : ℕ) → AllByRecursion IsErase (erases n sector)
unfolding erases
are_erases zero sector = tt
are_erases (suc n) sector = (tt, are_erases n (sector + 1))

-- all of them are erases
pub kinds_of_erase : (at len : ℕ) → AllByRecursion IsErase (erase_steps at len)
unfolding erase_steps
kinds_of_erase at len = are_erases (len / 4096) (at / 4096)

follow_of_erases : (n sector : ℕ) → FollowOn (sector * 4096) ((sector + n) * 4096) (erases n sector)
unfolding erases
follow_of_erases zero sector = omega arith
follow_of_erases (suc n) sector =
    let from : (sector + 1) * 4096 ≡ sector * 4096 + 4096 = omega arith in
    let to : (sector + 1 + n) * 4096 ≡ (sector + suc n) * 4096 = omega arith in (
      refl,
      subst (λ (to : ℕ). FollowOn (sector * 4096 + 4096) to (erases n (sector + 1))) to
          (subst (λ (from : ℕ). FollowOn from ((sector + 1 + n) * 4096) (erases n (sector + 1))) from
          (follow_of_erases n (sector + 1))),
    )

-- they follow one another, from the first byte to the last
pub follow_of_erase : (at len : ℕ) → at % 4096 ≡ 0 → len % 4096 ≡ 0
    → FollowOn at (at + len) (erase_steps at len)
unfolding erase_steps
follow_of_erase at len begins ends =
    let from : at / 4096 * 4096 ≡ at = omega arith in
    let to : (at / 4096 + len / 4096) * 4096 ≡ at + len = omega arith in
    subst (λ (to : ℕ). FollowOn at to (erases (len / 4096) (at / 4096))) to
    (subst (λ (from : ℕ). FollowOn from ((at / 4096 + len / 4096) * 4096) (erases (len / 4096) (at / 4096))) from
    (follow_of_erases (len / 4096) (at / 4096)))

erases-add : (m n sector : ℕ)
    → erases (m + n) sector ≡ erases m sector ++ erases n (sector + m)
unfolding erases
erases-add zero n sector =
    let none : zero + n ≡ n = omega arith in
    let here : sector ≡ sector + zero = omega arith in
    ap (λ k. erases k sector) none ∙ ap (λ k. erases n k) here
erases-add (suc m) n sector =
    let one : suc m + n ≡ suc (m + n) = omega arith in
    let to : sector + 1 + m ≡ sector + suc m = omega arith in
    ap (λ k. erases k sector) one
    ∙ ap (λ steps. Erase sector ∷ steps) (erases-add m n (sector + 1))
    ∙ ap (λ k. Erase sector ∷ (erases m (sector + 1) ++ erases n k)) to

-- an erase in pieces that are made of sectors is one erase
pub pieces_of_erase : (at first rest : ℕ) → at % 4096 ≡ 0 → first % 4096 ≡ 0
    → erase_steps at (first + rest) ≡ erase_steps at first ++ erase_steps (at + first) rest
unfolding erase_steps
pieces_of_erase at first rest begins ends =
    let count : (first + rest) / 4096 ≡ first / 4096 + rest / 4096 = omega arith in
    let from : at / 4096 + first / 4096 ≡ (at + first) / 4096 = omega arith in
    ap (λ n. erases n (at / 4096)) count
    ∙ erases-add (first / 4096) (rest / 4096) (at / 4096)
    ∙ ap (λ k. erases (first / 4096) (at / 4096) ++ erases (rest / 4096) k) from

-- a sector is one erase
pub one_erase : (at : ℕ) → erase_steps at 4096 ≡ Erase (at / 4096) ∷ []
unfolding erase_steps erases
one_erase at = refl

-- ---- what they leave

-- a byte outside it is as before
erased_outside : (n sector : ℕ) (flash : List ℕ) (i : ℕ) → i < length flash
    → (i < sector * 4096) ⊎ ((sector + n) * 4096 ≤ i)
    → slice_index (after_steps flash (erases n sector)) i ≡ slice_index flash i
unfolding erases
erased_outside zero sector flash i inside out = refl
erased_outside (suc n) sector flash i inside (inl low) =
    let next = applied flash (Erase sector) in
    erased_outside n (sector + 1) next i (omega (arith, length_applied flash (Erase sector), inside)) (inl (omega arith))
    ∙ byte_applied flash (Erase sector) i inside
    ∙ byte_after_outside (Erase sector) i (get_or flash i 0) (inl low)
erased_outside (suc n) sector flash i inside (inr high) =
    let next = applied flash (Erase sector) in
    erased_outside n (sector + 1) next i (omega (arith, length_applied flash (Erase sector), inside)) (inr (omega arith))
    ∙ byte_applied flash (Erase sector) i inside
    ∙ byte_after_outside (Erase sector) i (get_or flash i 0) (inr (omega arith))

-- a byte in the range is erased
erased_inside : (n sector : ℕ) (flash : List ℕ) (i : ℕ) → i < length flash → sector * 4096 ≤ i
    → i < (sector + n) * 4096 → slice_index (after_steps flash (erases n sector)) i ≡ 255
unfolding erases
erased_inside zero sector flash i inside from to = absurd (omega arith)
erased_inside (suc n) sector flash i inside from to =
    let next = applied flash (Erase sector) in
    let here : i < length next = omega (arith, length_applied flash (Erase sector), inside) in
    elim (cases_lt i (sector * 4096 + 4096)) [
      | inl first ↦
          erased_outside n (sector + 1) next i here (inl (omega arith))
          ∙ byte_applied flash (Erase sector) i inside
          ∙ byte_after_inside (Erase sector) i (get_or flash i 0) from first
      | inr later ↦ erased_inside n (sector + 1) next i here (omega arith) (omega arith)
    ]

-- a flash whose bytes are those of a part, and of another flash outside it
is_with_part : (at : ℕ) (part flash new : List ℕ) → at + length part ≤ length flash
    → length new ≡ length flash
    → ((i : ℕ) → at ≤ i → i < at + length part → slice_index new i ≡ slice_index part (i - at))
    → ((i : ℕ) → i < length flash → (i < at) ⊎ (at + length part ≤ i) → slice_index new i ≡ slice_index flash i)
    → new ≡ with_part at part flash
is_with_part at part flash new fits size within without =
    let len = length part in
    let same : length part ≡ length (take len (drop at flash)) =
    omega (arith, length-take len (drop at flash), length-drop at flash, fits) in
    ext_get_or 0 new (with_part at part flash) (size ∙ sym (length-spliced flash at len part same)) (λ i in_new.
    let inside : i < length flash = omega (arith, size, in_new) in
    elim (cases_lt i at) [
      | inl low ↦ without i inside (inl low) ∙ sym (spliced_below flash at len part same i low inside)
      | inr from ↦ elim (cases_lt i (at + len)) [
        | inl to ↦ within i from to ∙ sym (spliced_within flash at len part same i from to inside)
        | inr past ↦
            without i inside (inr past) ∙ sym (spliced_above flash at len part same i past inside)
      ]
    ])

-- an erase leaves 0xFF in its range, and nothing else changes
pub bytes_of_erase : (at len : ℕ) (flash : List ℕ) → at % 4096 ≡ 0 → len % 4096 ≡ 0
    → at + len ≤ length flash
    → after_steps flash (erase_steps at len) ≡ with_part at (replicate len 255) flash
unfolding erase_steps
bytes_of_erase at len flash begins ends fits =
    let from : at / 4096 * 4096 ≡ at = omega arith in
    let to : (at / 4096 + len / 4096) * 4096 ≡ at + len = omega arith in
    let size : length {A = ℕ} (replicate len 255) ≡ len = length-replicate {A = ℕ} len 255 in
    is_with_part at (replicate len 255) flash (after_steps flash (erases (len / 4096) (at / 4096)))
    (omega (arith, size, fits)) (length-after_steps flash (erases (len / 4096) (at / 4096)))
    (λ i above below.
    erased_inside (len / 4096) (at / 4096) flash i (omega (arith, size)) (omega (arith, from)) (omega (arith, to, size))
    ∙ sym (get_or-replicate len (i - at) 255 0 (omega (arith, size))))
    (λ i inside out. erased_outside (len / 4096) (at / 4096) flash i inside (outside i out))
  where
    outside : (i : ℕ) → (i < at) ⊎ (at + length {A = ℕ} (replicate len 255) ≤ i)
        → (i < at / 4096 * 4096) ⊎ ((at / 4096 + len / 4096) * 4096 ≤ i)
    outside i (inl low) = inl (omega (arith, begins))
    outside i (inr high) = inr (omega (arith, begins, ends, length-replicate {A = ℕ} len 255, high))

-- so the range is erased
erased_range : (at len : ℕ) (flash : List ℕ) → at % 4096 ≡ 0 → len % 4096 ≡ 0
    → at + len ≤ length flash → IsErasedAt at len (after_steps flash (erase_steps at len))
unfolding erase_steps
erased_range at len flash begins ends fits i above below =
    let from : at / 4096 * 4096 ≡ at = omega arith in
    let to : (at / 4096 + len / 4096) * 4096 ≡ at + len = omega arith in
    erased_inside (len / 4096) (at / 4096) flash i (omega arith) (omega (arith, from)) (omega (arith, to))

-- ---- a write to what is erased

-- a byte with which 0xFF is ANDed stays
kept_byte : (byte : ℕ) → byte < 256 → bit_and 255 byte ≡ byte
kept_byte byte small = and_comm 255 byte ∙ and_mask byte 8 ∙ mod-eq_of_lt small

-- a write to erased bytes leaves its bytes, and nothing else changes
pub bytes_of_write : (at : ℕ) (bytes flash : List ℕ) → at + length bytes ≤ length flash
    → All (λ b. b < 256) bytes → IsErasedAt at (length bytes) flash
    → after_steps flash (write_steps at bytes) ≡ with_part at bytes flash
bytes_of_write at bytes flash fits are_bytes erased =
    let one = Program at bytes in
    whole_write at bytes flash fits
    ∙ is_with_part at bytes flash (applied flash one) fits (length_applied flash one)
    (λ i from to.
    byte_applied flash one i (omega arith) ∙ byte_after_inside one i (get_or flash i 0) from to
    ∙ ap (λ b. bit_and b (slice_index bytes (i - at))) (erased i from to)
    ∙ kept_byte (slice_index bytes (i - at)) (are_bytes (i - at) 0 (omega arith)))
    (λ i inside out. byte_applied flash one i inside ∙ byte_after_outside one i (get_or flash i 0) out)

-- bytes that are written to what was erased just before stand there
pub bytes_of_both : (from len at : ℕ) (bytes flash : List ℕ) → from % 4096 ≡ 0 → len % 4096 ≡ 0
    → from ≤ at → at + length bytes ≤ from + len → from + len ≤ length flash
    → All (λ b. b < 256) bytes
    → after_steps flash (erase_steps from len ++ write_steps at bytes)
    ≡ with_part at bytes (with_part from (replicate len 255) flash)
bytes_of_both from len at bytes flash begins ends low high fits are_bytes =
    let erased = erase_steps from len in
    let next = after_steps flash erased in
    let all = erased_range from len flash begins ends fits in
    after_steps_append flash erased (write_steps at bytes)
    ∙ bytes_of_write at bytes next (omega (arith, length-after_steps flash erased)) are_bytes
    (λ i above below. all i (omega arith) (omega arith))
    ∙ ap (λ f. with_part at bytes f) (bytes_of_erase from len flash begins ends fits)

-- the erases lie in their range
pub inside_of_erase : (at len : ℕ) → at % 4096 ≡ 0 → len % 4096 ≡ 0
    → AllByRecursion (LiesIn at (at + len)) (erase_steps at len)
inside_of_erase at len begins ends =
    (lie_in at (at + len) (erase_steps at len) (follow_of_erase at len begins ends)).1
