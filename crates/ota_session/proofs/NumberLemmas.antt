-- Which step has a number among some steps.
use Rattle.std.proofs.Common.{◌≡◌, ◌≤◌, ◌<◌, Bool, true, false, ℕ, zero, suc, ◌+◌, ◌-◌, ◌/◌, ◌%◌, List, [], ◌∷◌, ◌++◌, length, take, drop, Some, refl, sym, ap, ◌∙◌, arith}
use Rattle.std.specs.Prelude.{◌↔◌, ◌==◌, if◌then◌else◌, IsTrue, slice_get}
use Rattle.std.proofs.lemmas.Bool.Decides.{nat_tests}
use Rattle.std.proofs.lemmas.List.{drop-drop}
use Rattle.nor_device.specs.declared.step.Step.{Step}
use Rattle.nor_device.specs.declared.step.Step.TheVariants.{Erase, Program}
use Rattle.flash_steps.specs.Steps.{erase_steps, erases, pages_in, programs, room_at, write_steps}
use Rattle.update_steps.specs.Driver.{slot_erases, whole_sectors}
use Rattle.ota_session.specs.Course.{IsNext}
use Rattle.ota_session.specs.Numbers.{page_from}

-- ---- lists

module _ {A : Type 0} where
  -- in two lists one after the other the first numbers are those of the first
  pub first_number : (xs ys : List A) (n : ℕ) → n < length xs
      → slice_get (xs ++ ys) n ≡ slice_get xs n
  first_number [] ys n inside = absurd (omega arith)
  first_number (x ∷ xs) ys zero inside = refl
  first_number (x ∷ xs) ys (suc n) inside = first_number xs ys n (omega arith)

  -- and the others those of the second
  pub later_number : (xs ys : List A) (n : ℕ) → length xs ≤ n
      → slice_get (xs ++ ys) n ≡ slice_get ys (n - length xs)
  later_number [] ys n past = ap (slice_get ys) (omega arith)
  later_number (x ∷ xs) ys zero past = absurd (omega arith)
  later_number (x ∷ xs) ys (suc n) past =
      later_number xs ys n (omega arith) ∙ ap (slice_get ys) (omega arith)

  -- one more of the first elements
  pub take_one_more : (xs : List A) (n : ℕ) (x : A) → slice_get xs n ≡ Some x
      → take (suc n) xs ≡ take n xs ++ (x ∷ [])
  take_one_more [] n x is = absurd cc
  take_one_more (y ∷ xs) zero x is = cc
  take_one_more (y ∷ xs) (suc n) x is = ap (λ rest. y ∷ rest) (take_one_more xs n x is)

  -- and one less of the others
  pub drop_one_more : (xs : List A) (n : ℕ) → drop (suc n) xs ≡ drop 1 (drop n xs)
  drop_one_more [] zero = refl
  drop_one_more [] (suc n) = refl
  drop_one_more (y ∷ xs) zero = refl
  drop_one_more (y ∷ xs) (suc n) = drop_one_more xs n

-- the next step behind so many is the one with this number
pub next_from : (steps : List Step) (n : ℕ) (step : Step) → slice_get steps n ≡ Some step
    → IsNext (drop n steps) step
next_from [] n step is = absurd cc
next_from (first ∷ steps) zero step is = cc
next_from (first ∷ steps) (suc n) step is = next_from steps n step is

pub next_to : (steps : List Step) (n : ℕ) (step : Step) → IsNext (drop n steps) step
    → slice_get steps n ≡ Some step
next_to [] zero step is = absurd is
next_to [] (suc n) step is = absurd is
next_to (first ∷ steps) zero step is = cc
next_to (first ∷ steps) (suc n) step is = next_to steps n step is

-- ---- erases

erase_number : (n sector i : ℕ) → i < n → slice_get (erases n sector) i ≡ Some (Erase (sector + i))
unfolding erases
erase_number zero sector i inside = absurd (omega arith)
erase_number (suc n) sector zero inside = ap (λ k. Some (Erase k)) (omega arith)
erase_number (suc n) sector (suc i) inside =
    erase_number n (sector + 1) i (omega arith) ∙ ap (λ k. Some (Erase k)) (omega arith)

-- the erases of the sectors of an image
pub slot_erase : (at : ℕ) (image : List ℕ) (i : ℕ) → i < (length image + 4095) / 4096
    → slice_get (slot_erases at image) i ≡ Some (Erase (at / 4096 + i))
unfolding erase_steps
slot_erase at image i inside =
    erase_number (whole_sectors (length image) / 4096) (at / 4096) i (omega arith)

-- ---- programs

-- the page with this number begins in front of the end of the bytes
pub page_within : (at len p : ℕ) → p < pages_in at len → page_from at p < at + len
unfolding pages_in
page_within at len p within = by (len == 0) refl within
  where
    by : (none : Bool) → (len == 0) ≡ none
        → p < (if none then 0 else (at % 256 + len + 255) / 256) → page_from at p < at + len
    by true is within = absurd (omega arith)
    by false is within =
        let some : 1 ≤ len = grind (arith, nat_tests) in
        omega arith

page_number : (n at : ℕ) (bytes : List ℕ) (p : ℕ) → p < n
    → slice_get (programs n at bytes) p
    ≡ Some (Program (page_from at p)
    (take (room_at (page_from at p)) (drop (page_from at p - at) bytes)))
unfolding programs
page_number zero at bytes p inside = absurd (omega arith)
page_number (suc n) at bytes zero inside =
    let here : at ≡ page_from at 0 = omega arith in
    let none : 0 ≡ page_from at 0 - at = omega arith in
    ap (λ k. Some (Program k (take (room_at k) bytes))) here
    ∙ ap (λ k. Some (Program (page_from at 0) (take (room_at (page_from at 0)) (drop k bytes)))) none
page_number (suc n) at bytes (suc p) inside =
    let room = room_at at in
    let next = at + room in
    let there : page_from next p ≡ page_from at (suc p) = omega arith in
    let gone : room + (page_from next p - next) ≡ page_from at (suc p) - at = omega arith in
    page_number n next (drop room bytes) p (omega arith)
    ∙ ap (λ part. Some (Program (page_from next p) (take (room_at (page_from next p)) part)))
    (drop-drop (page_from next p - next) room bytes)
    ∙ ap (λ k. Some (Program (page_from next p) (take (room_at (page_from next p)) (drop k bytes)))) gone
    ∙ ap (λ k. Some (Program k (take (room_at k) (drop (page_from at (suc p) - at) bytes)))) there

-- the programs of a write
pub write_number : (at : ℕ) (bytes : List ℕ) (p : ℕ) → p < pages_in at (length bytes)
    → slice_get (write_steps at bytes) p
    ≡ Some (Program (page_from at p)
    (take (room_at (page_from at p)) (drop (page_from at p - at) bytes)))
unfolding write_steps
write_number at bytes p inside = page_number (pages_in at (length bytes)) at bytes p inside

-- ---- tests

-- a test of the step with a number
pub number_is : (steps : List Step) (n : ℕ) (found step : Step) (test : Bool)
    → slice_get steps n ≡ Some found → (IsTrue test ↔ (step ≡ found))
    → (IsTrue test ↔ (slice_get steps n ≡ Some step))
number_is steps n found step test is tells = record {
  0 = λ yes. is ∙ ap Some (sym (tells.0 yes));
  1 = λ there. tells.1 (let same = sym is ∙ there in cc);
}

-- a test of the next step behind so many
pub next_is : (steps : List Step) (n : ℕ) (step : Step) (test : Bool)
    → (IsTrue test ↔ (slice_get steps n ≡ Some step)) → (IsTrue test ↔ IsNext (drop n steps) step)
next_is steps n step test tells = record {
  0 = λ yes. next_from steps n step (tells.0 yes);
  1 = λ next. tells.1 (next_to steps n step next);
}
