-- Two programs, one behind the other, are one.
use Rattle.std.proofs.Common.{◌≡◌, ◌<◌, ℕ, ◌+◌, ◌-◌, List, [], ◌++◌, length, take, drop, get_or, inl, inr, refl, sym, ap, ◌∙◌, arith, length-append}
use Rattle.std.specs.Prelude.{bit_and, slice_index}
use Rattle.std.proofs.lemmas.Bool.{cases_lt}
use Rattle.std.proofs.lemmas.List.{append-nil, ext_get_or, get_or-append_right, get_or_append_left, take-append-drop}
use Rattle.nor_device.specs.declared.step.Step.TheVariants.{Program}
use Rattle.nor_device.specs.Flash.{applied, byte_after}
use Rattle.nor_device.proofs.FlashLaws.{byte_after_inside, byte_after_outside, byte_applied, length_applied}

-- a program of no bytes changes nothing
pub nothing : (at : ℕ) (flash : List ℕ) → applied flash (Program at []) ≡ flash
nothing at flash =
    let place : at + 0 ≡ at = omega arith in
    ap (λ part. part ++ drop (at + 0) flash) (append-nil (take at flash))
    ∙ ap (λ n. take at flash ++ drop n flash) place ∙ take-append-drop at flash

-- the byte at an address after both
both_bytes : (at i byte : ℕ) (first rest : List ℕ)
    → byte_after (Program (at + length first) rest) i (byte_after (Program at first) i byte)
    ≡ byte_after (Program at (first ++ rest)) i byte
both_bytes at i byte first rest =
    let one = Program at first in
    let two = Program (at + length first) rest in
    let all = Program at (first ++ rest) in
    let long = length-append first rest in
    elim (cases_lt i at) [
      | inl low ↦
          byte_after_outside two i _ (inl (omega arith)) ∙ byte_after_outside one i byte (inl low)
          ∙ sym (byte_after_outside all i byte (inl low))
      | inr from ↦ elim (cases_lt i (at + length first)) [
        | inl to ↦
            byte_after_outside two i _ (inl to) ∙ byte_after_inside one i byte from to
            ∙ ap (λ b. bit_and byte b) (sym (get_or_append_left first rest 0 (i - at) (omega arith)))
            ∙ sym (byte_after_inside all i byte from (omega (arith, long)))
        | inr past ↦ elim (cases_lt i (at + length first + length rest)) [
          | inl to ↦
              let place : i - at - length first ≡ i - (at + length first) = omega arith in
              ap (λ b. byte_after two i b) (byte_after_outside one i byte (inr past))
              ∙ byte_after_inside two i byte past to
              ∙ ap (λ k. bit_and byte (slice_index rest k)) (sym place)
              ∙ ap (λ b. bit_and byte b)
              (sym (get_or-append_right first rest (length first) (i - at) 0 refl (omega arith)))
              ∙ sym (byte_after_inside all i byte from (omega (arith, long)))
          | inr high ↦
              byte_after_outside two i _ (inr high) ∙ byte_after_outside one i byte (inr past)
              ∙ sym (byte_after_outside all i byte (inr (omega (arith, long))))
        ]
      ]
    ]

-- a program and one right behind it are one program
pub joined : (flash : List ℕ) (at : ℕ) (first rest : List ℕ)
    → applied (applied flash (Program at first)) (Program (at + length first) rest)
    ≡ applied flash (Program at (first ++ rest))
joined flash at first rest =
    let one = Program at first in
    let two = Program (at + length first) rest in
    let all = Program at (first ++ rest) in
    let mid = applied flash one in
    let size : length (applied mid two) ≡ length flash = length_applied mid two ∙ length_applied flash one in
    ext_get_or 0 (applied mid two) (applied flash all) (size ∙ sym (length_applied flash all)) (λ i within.
    let inside : i < length flash = omega (arith, size, within) in
    let here : i < length mid = omega (arith, length_applied flash one, inside) in
    byte_applied mid two i here
    ∙ ap (λ b. byte_after two i b) (byte_applied flash one i inside)
    ∙ both_bytes at i (get_or flash i 0) first rest
    ∙ sym (byte_applied flash all i inside))
