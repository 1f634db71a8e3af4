-- Which step has a number in an update by an image, and how many there are.
use Rattle.std.proofs.Common.{◌≡◌, ◌≤◌, ◌<◌, Bool, true, false, ℕ, ◌+◌, ◌-◌, ◌/◌, List, [], ◌∷◌, ◌++◌, length, Option, Some, None, refl, sym, ap, ◌∙◌, arith, length-append}
use Rattle.std.specs.Prelude.{◌↔◌, ◌==◌, if◌then◌else◌, IsTrue, slice_get}
use Rattle.std.proofs.lemmas.Bool.{false≢true}
use Rattle.std.proofs.lemmas.Bool.Decides.{nat_tests}
use Rattle.std.proofs.lemmas.Option.{slice_get_past}
use Rattle.nor_device.specs.declared.step.Step.{Step}
use Rattle.nor_device.specs.declared.step.Step.TheVariants.{Erase}
use Rattle.partition_table.specs.declared.row.Row.{Row}
use Rattle.rollback.specs.declared.rewrite.Rewrite.{Rewrite}
use Rattle.image_verify.specs.declared.bad.BadImage.{BadImage}
use Rattle.image_verify.specs.Bad.{bad}
use Rattle.boot_run.specs.Rewriting.{rewrite}
use Rattle.flash_steps.specs.Steps.{erase_steps, erases, pages_in, write_steps}
use Rattle.flash_steps.proofs.EraseLemmas.{count_of_erase}
use Rattle.flash_steps.proofs.WriteLemmas.{count_of_write}
use Rattle.update_steps.specs.Driver.{data_steps, image_steps, sealed_steps, slot_erases, whole_sectors}
use Rattle.ota_session.specs.Numbers.{IsMarked}
use Rattle.ota_session.proofs.NumberLemmas.{first_number, later_number, number_is, slot_erase}

-- a test that never passes
pub never : (steps : List Step) (n : ℕ) (step : Step) → slice_get steps n ≡ None
    → (IsTrue false ↔ (slice_get steps n ≡ Some step))
never steps n step none = record {
  0 = λ yes. absurd (let two : false ≡ true = yes in false≢true two);
  1 = λ there. absurd (let both = sym none ∙ there in cc);
}

-- a test of a number among other steps
pub moved_test : (xs ys : List Step) (n m : ℕ) (step : Step) (test : Bool)
    → slice_get xs n ≡ slice_get ys m → (IsTrue test ↔ (slice_get ys m ≡ Some step))
    → (IsTrue test ↔ (slice_get xs n ≡ Some step))
moved_test xs ys n m step test same tells =
    record { 0 = λ yes. same ∙ tells.0 yes; 1 = λ there. tells.1 (sym same ∙ there) }

module _ (otadata : ℕ) (row : Row) (next : Rewrite) where
  abbrev steps : List ℕ → List Step
  steps image = image_steps otadata row next image

  -- the bytes of no image are erased for alone
  unmarked_is : (image : List ℕ) → ¬ IsMarked image → steps image ≡ slot_erases row.offset image
  unfolding erase_steps erases
  unmarked_is [] other = refl
  unmarked_is (byte ∷ bytes) other =
      let test : (byte == 0xE9) ≡ false = grind (arith, nat_tests) in
      ap (λ (t : Bool). if t
      then sealed_steps (bad row.size (byte ∷ bytes)) (data_steps row.offset (byte ∷ bytes))
      (rewrite otadata next)
      else slot_erases row.offset (byte ∷ bytes)) test

  -- those of an image are written
  marked_is : (image : List ℕ) → IsMarked image
      → steps image
      ≡ sealed_steps (bad row.size image) (data_steps row.offset image) (rewrite otadata next)
  marked_is [] marked = absurd marked
  marked_is (byte ∷ bytes) marked =
      let test : (byte == 0xE9) ≡ true = grind (arith, nat_tests) in
      ap (λ (t : Bool). if t
      then sealed_steps (bad row.size (byte ∷ bytes)) (data_steps row.offset (byte ∷ bytes))
      (rewrite otadata next)
      else slot_erases row.offset (byte ∷ bytes)) test

  sound_is : (image : List ℕ) → IsMarked image → bad row.size image ≡ None
      → steps image ≡ data_steps row.offset image ++ rewrite otadata next
  sound_is image marked sound = marked_is image marked
      ∙ ap (λ (found : Option BadImage). sealed_steps found (data_steps row.offset image)
      (rewrite otadata next)) sound

  faulty_is : (image : List ℕ) → IsMarked image → ¬ (bad row.size image ≡ None)
      → steps image ≡ data_steps row.offset image
  faulty_is image marked faulty = marked_is image marked ∙ by (bad row.size image) refl
    where
      by : (found : Option BadImage) → bad row.size image ≡ found
          → sealed_steps (bad row.size image) (data_steps row.offset image) (rewrite otadata next)
          ≡ data_steps row.offset image
      by None is = absurd (faulty is)
      by (Some why) is =
          ap (λ (f : Option BadImage). sealed_steps f (data_steps row.offset image)
          (rewrite otadata next)) is

  -- how many erases and programs there are
  erase_count : (image : List ℕ)
      → length (slot_erases row.offset image) ≡ (length image + 4095) / 4096
  erase_count image =
      let sectors : whole_sectors (length image) / 4096 ≡ (length image + 4095) / 4096 =
      omega arith in
      count_of_erase row.offset (whole_sectors (length image)) ∙ sectors

  data_count : (image : List ℕ)
      → length (data_steps row.offset image)
      ≡ (length image + 4095) / 4096 + pages_in row.offset (length image)
  data_count image =
      length-append (slot_erases row.offset image) (write_steps row.offset image)
      ∙ (λ i. erase_count image i + count_of_write row.offset image i)

  -- no update has more steps than that, and two
  pub most_steps : (image : List ℕ)
      → length (steps image)
      ≤ (length image + 4095) / 4096 + pages_in row.offset (length image) + 2
  most_steps [] = omega arith
  most_steps (byte ∷ bytes) = by (byte == 0xE9) (bad row.size (byte ∷ bytes))
    where
      all : length (data_steps row.offset (byte ∷ bytes))
          ≡ (length (byte ∷ bytes) + 4095) / 4096
          + pages_in row.offset (length (byte ∷ bytes))
      all = data_count (byte ∷ bytes)

      by : (marked : Bool) (found : Option BadImage)
          → length (if marked
          then sealed_steps found (data_steps row.offset (byte ∷ bytes)) (rewrite otadata next)
          else slot_erases row.offset (byte ∷ bytes))
          ≤ (length (byte ∷ bytes) + 4095) / 4096
          + pages_in row.offset (length (byte ∷ bytes)) + 2
      by false found = omega (arith, erase_count (byte ∷ bytes))
      by true (Some why) = omega (arith, all)
      by true None = omega (
        arith,
        all,
        length-append (data_steps row.offset (byte ∷ bytes))
            (rewrite otadata next),
      )

  -- the erases come first
  erases_first : (image : List ℕ) (n : ℕ) → n < (length image + 4095) / 4096
      → slice_get (steps image) n ≡ slice_get (slot_erases row.offset image) n
  erases_first [] n inside = absurd (omega arith)
  erases_first (byte ∷ bytes) n inside = by (byte == 0xE9) (bad row.size (byte ∷ bytes))
    where
      short : n < length (slot_erases row.offset (byte ∷ bytes))
      short = omega (arith, erase_count (byte ∷ bytes), inside)

      data_first : slice_get (data_steps row.offset (byte ∷ bytes)) n
          ≡ slice_get (slot_erases row.offset (byte ∷ bytes)) n
      data_first = first_number (slot_erases row.offset (byte ∷ bytes))
          (write_steps row.offset (byte ∷ bytes)) n short

      by : (marked : Bool) (found : Option BadImage)
          → slice_get (if marked
          then sealed_steps found (data_steps row.offset (byte ∷ bytes)) (rewrite otadata next)
          else slot_erases row.offset (byte ∷ bytes)) n
          ≡ slice_get (slot_erases row.offset (byte ∷ bytes)) n
      by false found = refl
      by true (Some why) = data_first
      by true None =
          first_number (data_steps row.offset (byte ∷ bytes)) (rewrite otadata next) n
          (omega (
            arith,
            short,
            length-append (slot_erases row.offset (byte ∷ bytes))
                (write_steps row.offset (byte ∷ bytes)),
          ))
          ∙ data_first

  -- then, of an image, the programs
  data_first : (image : List ℕ) (n : ℕ) → IsMarked image → n < length (data_steps row.offset image)
      → slice_get (steps image) n ≡ slice_get (data_steps row.offset image) n
  data_first image n marked inside = by (bad row.size image) refl
    where
      by : (found : Option BadImage) → bad row.size image ≡ found
          → slice_get (steps image) n ≡ slice_get (data_steps row.offset image) n
      by None is = ap (λ (l : List Step). slice_get l n) (sound_is image marked is)
          ∙ first_number (data_steps row.offset image) (rewrite otadata next) n inside
      by (Some why) is = ap (λ (l : List Step). slice_get l n)
          (faulty_is image marked (λ none. let both = sym none ∙ is in absurd cc))

  module _ (image : List ℕ) (n erases : ℕ) (step : Step) (test : Bool)
      (many : erases ≡ (length image + 4095) / 4096) where
    -- a test among the erases
    pub erase_test : n < erases → (IsTrue test ↔ (step ≡ Erase (row.offset / 4096 + n)))
        → (IsTrue test ↔ (slice_get (steps image) n ≡ Some step))
    erase_test inside tells =
        let within : n < (length image + 4095) / 4096 = omega (arith, inside, many) in
        number_is (steps image) n (Erase (row.offset / 4096 + n)) step test
        (erases_first image n within ∙ slot_erase row.offset image n within) tells

    -- behind them there is nothing, where the bytes are none of an image
    pub unmarked_test : erases ≤ n → ¬ IsMarked image
        → (IsTrue false ↔ (slice_get (steps image) n ≡ Some step))
    unmarked_test past other =
        never (steps image) n step
        (ap (λ (l : List Step). slice_get l n) (unmarked_is image other)
        ∙ slice_get_past (slot_erases row.offset image) n
        (omega (arith, erase_count image, past, many)))

    -- among the programs
    pub program_test : erases ≤ n → IsMarked image
        → n - erases < pages_in row.offset (length image)
        → (IsTrue test ↔ (slice_get (write_steps row.offset image) (n - erases) ≡ Some step))
        → (IsTrue test ↔ (slice_get (steps image) n ≡ Some step))
    program_test past marked inside tells =
        let count = erase_count image in
        let all = data_count image in
        moved_test (steps image) (write_steps row.offset image) n (n - erases) step test
        (data_first image n marked (omega (arith, all, past, inside, many))
        ∙ later_number (slot_erases row.offset image) (write_steps row.offset image) n
        (omega (arith, count, past, many))
        ∙ ap (λ (k : ℕ). slice_get (write_steps row.offset image) (n - k)) (count ∙ sym many))
        tells

    module _ (programs : ℕ) (written : programs ≡ pages_in row.offset (length image)) where
      -- behind these there is nothing, where the bytes show a fault
      pub faulty_test : erases ≤ n → IsMarked image → programs ≤ n - erases
          → ¬ (bad row.size image ≡ None)
          → (IsTrue false ↔ (slice_get (steps image) n ≡ Some step))
      faulty_test past marked behind faulty =
          never (steps image) n step
          (ap (λ (l : List Step). slice_get l n) (faulty_is image marked faulty)
          ∙ slice_get_past (data_steps row.offset image) n
          (omega (arith, data_count image, past, behind, many, written)))

      -- and else the steps of the entry
      pub entry_test : erases ≤ n → IsMarked image → programs ≤ n - erases
          → bad row.size image ≡ None
          → (IsTrue test ↔ (slice_get (rewrite otadata next) (n - erases - programs) ≡ Some step))
          → (IsTrue test ↔ (slice_get (steps image) n ≡ Some step))
      entry_test past marked behind sound tells =
          let all = data_count image in
          let less : n - length (data_steps row.offset image) ≡ n - erases - programs =
          omega (arith, all, past, behind, many, written) in
          moved_test (steps image) (rewrite otadata next) n (n - erases - programs) step test
          (ap (λ (l : List Step). slice_get l n) (sound_is image marked sound)
          ∙ later_number (data_steps row.offset image) (rewrite otadata next) n
          (omega (arith, all, past, behind, many, written))
          ∙ ap (λ (k : ℕ). slice_get (rewrite otadata next) k) less) tells
