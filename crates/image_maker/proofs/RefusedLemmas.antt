-- The first fault of parts, one part after the other.
use Rattle.std.proofs.Common.{◌≡◌, ℕ, ◌+◌, List, ◌∷◌, length, Option, Some, None, refl, sym, ap, ◌∙◌, Bool, true, false, arith}
use Rattle.image_maker.specs.declared.refusal.MakeNo.{MakeNo}
use Rattle.image_maker.specs.declared.refusal.MakeNo.TheVariants.{NoSegments, Overlap}
use Rattle.std.specs.Prelude.{◌==◌, ◌≢◌}
use Rattle.std.proofs.lemmas.Bool.Decides.{nat_tests}
use Rattle.image_maker.specs.Placing.{Part, placed, text_from}
use Rattle.image_maker.specs.Refused.{part_fault, parts_fault, meets, first_met, met_by_first, overlap_fault, size_fault, make_fault}

-- Parts are left, of which p is the first.
module _ (number : ℕ) (p : Part) (left ps : List Part) (is : left ≡ p ∷ ps) where
  -- it has a fault
  pub part_stops : (fault : MakeNo) (whole : Option MakeNo) → part_fault number p.load (length p.content) ≡ Some fault
      → parts_fault number left ≡ whole → Some fault ≡ whole
  part_stops fault whole found so_far = sym (rw (is, found) refl) ∙ so_far

  -- it has none
  pub part_passes : (whole : Option MakeNo) → part_fault number p.load (length p.content) ≡ None
      → parts_fault number left ≡ whole → parts_fault (number + 1) ps ≡ whole
  part_passes whole none so_far = sym (rw (is, none) refl) ∙ so_far

  -- a part after this one meets it
  pub overlap_stops : (b : ℕ) (whole : Option MakeNo) → Some b ≡ met_by_first number left
      → overlap_fault number left ≡ whole → Some (Overlap number b) ≡ whole
  overlap_stops b whole met so_far =
      let found : met_by_first number (p ∷ ps) ≡ Some b = ap (met_by_first number) (sym is) ∙ sym met in
      sym (rw (is, found) refl) ∙ so_far

  -- no part after this one meets it
  pub overlap_passes : (whole : Option MakeNo) → met_by_first number left ≡ None
      → overlap_fault number left ≡ whole → overlap_fault (number + 1) ps ≡ whole
  overlap_passes whole none so_far =
      let found : met_by_first number (p ∷ ps) ≡ None = ap (met_by_first number) (sym is) ∙ none in
      sym (rw (is, found) refl) ∙ so_far

  -- it meets a part before it
  pub meeting_stops : (load len : ℕ) (whole : Option ℕ) → meets load len p.load (length p.content) ≡ true
      → first_met load len number left ≡ whole → Some number ≡ whole
  meeting_stops load len whole found so_far = sym (rw (is, found) refl) ∙ so_far

  -- it doesn't
  pub meeting_passes : (load len : ℕ) (whole : Option ℕ) → meets load len p.load (length p.content) ≡ false
      → first_met load len number left ≡ whole → first_met load len (number + 1) ps ≡ whole
  meeting_passes load len whole none so_far = sym (rw (is, none) refl) ∙ so_far

-- there are no parts
pub no_parts : (hash : Bool) (ps : List Part) → length ps ≡ 0 → make_fault hash ps ≡ Some NoSegments
unfolding make_fault
no_parts hash ps none = let test : (length ps == 0) ≡ true = grind (arith, nat_tests, none) in rw test refl

-- There are parts.
module _ (hash : Bool) (ps : List Part) (some : length ps ≢ 0) where
  -- one of them has a fault
  pub faulty_part : (why : MakeNo) → parts_fault 0 ps ≡ Some why → make_fault hash ps ≡ Some why
  unfolding make_fault
  faulty_part why found =
      let test : (length ps == 0) ≡ false = grind (arith, nat_tests, some) in
      rw (test, found) refl

  -- two of them meet
  pub faulty_pair : (why : MakeNo) → parts_fault 0 ps ≡ None → overlap_fault 0 ps ≡ Some why → make_fault hash ps ≡ Some why
  unfolding make_fault
  faulty_pair why none found =
      let test : (length ps == 0) ≡ false = grind (arith, nat_tests, some) in
      rw (test, none, found) refl

  -- all depends on the size
  pub by_size : (fault : Option MakeNo) (count end : ℕ) → parts_fault 0 ps ≡ None → overlap_fault 0 ps ≡ None
      → count ≡ length (placed ps 24) → end ≡ 24 + length (text_from ps 24) → size_fault count end hash ≡ fault
      → make_fault hash ps ≡ fault
  unfolding make_fault
  by_size fault count end none apart count_is end_is found =
      let test : (length ps == 0) ≡ false = grind (arith, nat_tests, some) in
      rw (test, none, apart) (sym (λ i. size_fault (count_is i) (end_is i) hash) ∙ found)
