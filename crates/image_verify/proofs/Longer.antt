-- A reading goes on where it stopped when more bytes come, and a fault stays.
use Rattle.std.proofs.Common.{◌≡◌, ℕ, zero, suc, ◌+◌, ◌-◌, ◌<◌, ◌≤◌, List, [], ◌∷◌, ◌++◌, length, take, drop, refl, sym, ap, ◌∙◌, arith, inl, inr}
use Rattle.std.specs.Prelude.{Bool, true, false, not, Option, Some, None, nat_lt, ◌==◌, ◌&&◌, ◌||◌, ◌⊎◌, if◌then◌else◌, slice_index}
use Rattle.std.proofs.lemmas.Bool.{cases_Bool, cases_lt}
use Rattle.std.proofs.lemmas.Bool.Decides.{nat_tests}
use Rattle.std.proofs.Math.Seq.{take-append-add}
use Rattle.std.proofs.lemmas.List.{drop-append-le, get_or_append_left, length-append, length-drop, take-append-le, take_all}
use Rattle.std.proofs.lemmas.Option.{none-some}
use Rattle.byteorder.specs.Endian.{little_number}
use Rattle.byteorder.specs.Numbers.{little_from-append}
use Rattle.image_verify.specs.declared.bad.BadImage.{BadImage}
use Rattle.image_verify.specs.declared.bad.BadImage.TheVariants.{Magic, Segments, Chip, Flag}
use Rattle.image_verify.specs.declared.info.SegmentNote.{SegmentNote}
use Rattle.image_verify.specs.Places.{count_of, flag_of, load_at, length_at, note_at, need_of}
use Rattle.image_verify.specs.Walk.{Walk, Faulty, Begins, Reads, fails, first, unless, magic_fault, segments_fault, chip_fault, flag_fault, header_fault, limit_fault, fault_at, head_fault, walk, opened, plan}
use Rattle.image_verify.specs.Bad.{fault_in, early, late, bad}
use Rattle.image_verify.proofs.First.{unless_faulty}
use Rattle.image_verify.proofs.Reading.{walk_head, walk_wait, walk_end}

-- what a place tells stays when bytes follow
module _ (bytes more : List ℕ) where
  pub byte_stays : (i : ℕ) → i < length bytes → slice_index (bytes ++ more) i ≡ slice_index bytes i
  byte_stays i inside = get_or_append_left bytes more 0 i inside

  pub load_stays : (at : ℕ) → at + 8 ≤ length bytes → load_at (bytes ++ more) at ≡ load_at bytes at
  load_stays at inside =
      ap (little_number 4) (drop-append-le at bytes more (omega (arith, inside)))
      ∙ little_from-append 4 (drop at bytes) more (omega (arith, inside, length-drop at bytes))

  pub length_stays : (at : ℕ) → at + 8 ≤ length bytes → length_at (bytes ++ more) at ≡ length_at bytes at
  length_stays at inside =
      let left = length-drop at bytes in
      ap (λ (xs : List ℕ). little_number 4 (drop 4 xs)) (drop-append-le at bytes more (omega (arith, inside)))
      ∙ ap (little_number 4) (drop-append-le 4 (drop at bytes) more (omega (arith, inside, left)))
      ∙ little_from-append 4 (drop 4 (drop at bytes)) more
      (omega (arith, inside, left, length-drop 4 (drop at bytes)))

-- Where a reading comes to when bytes follow: it goes on from where it stopped, and a fault stays.
abbrev pub onward : ℕ → ℕ → List ℕ → Walk → Walk
onward limit flag all (Faulty bad) = Faulty bad
onward limit flag all Begins = Begins
onward limit flag all (Reads heads end notes) = walk limit flag all heads end notes

-- a fault that was found before goes through
through : (limit flag : ℕ) (all : List ℕ) (fault : Option BadImage) (there here : Walk)
    → there ≡ onward limit flag all here → unless fault there ≡ onward limit flag all (unless fault here)
through limit flag all None there here is = is
through limit flag all (Some bad) there here is = refl

module _ (limit flag : ℕ) (bytes more : List ℕ) where
  -- a walk goes on
  pub walk_onward : (heads at : ℕ) (notes : List SegmentNote)
      → walk limit flag (bytes ++ more) heads at notes
      ≡ onward limit flag (bytes ++ more) (walk limit flag bytes heads at notes)
  walk_onward zero at notes =
      sym (ap (onward limit flag (bytes ++ more)) (walk_end limit flag bytes at notes))
  walk_onward (suc heads) at notes =
      by (walk_onward heads (at + 8 + length_at bytes at) (notes ++ note_at bytes at ∷ []))
      (cases_Bool (nat_lt (length bytes) (at + 8)))
    where
      by : (walk limit flag (bytes ++ more) heads (at + 8 + length_at bytes at) (notes ++ note_at bytes at ∷ [])
          ≡ onward limit flag (bytes ++ more)
          (walk limit flag bytes heads (at + 8 + length_at bytes at) (notes ++ note_at bytes at ∷ [])))
          → ((nat_lt (length bytes) (at + 8) ≡ true) ⊎ (nat_lt (length bytes) (at + 8) ≡ false))
          → walk limit flag (bytes ++ more) (suc heads) at notes
          ≡ onward limit flag (bytes ++ more) (walk limit flag bytes (suc heads) at notes)
      by others (inl short) =
          sym (ap (onward limit flag (bytes ++ more)) (walk_wait limit flag bytes heads at notes short))
      by others (inr there) =
          let inside : at + 8 ≤ length bytes = grind (arith, nat_tests, there) in
          let all = length-append bytes more in
          let far : nat_lt (length (bytes ++ more)) (at + 8) ≡ false = grind (arith, nat_tests, inside, all) in
          let load = load_stays bytes more at inside in
          let len = length_stays bytes more at inside in
          walk_head limit flag (bytes ++ more) heads at notes far
          ∙ (λ i. unless (head_fault limit flag (length notes) (load i) (len i) at heads)
          (walk limit flag (bytes ++ more) heads (at + 8 + len i)
          (notes ++ (record { load = load i; length = len i; place = at + 8 }) ∷ [])))
          ∙ through limit flag (bytes ++ more) (fault_at limit flag bytes (length notes) at heads) _ _ others
          ∙ sym (ap (onward limit flag (bytes ++ more)) (walk_head limit flag bytes heads at notes there))

module _ (limit : ℕ) (bytes more : List ℕ) (long : 24 ≤ length bytes) where
  flag_stays : flag_of (bytes ++ more) ≡ flag_of bytes
  flag_stays = byte_stays bytes more 23 (omega (arith, long))

  count_stays : count_of (bytes ++ more) ≡ count_of bytes
  count_stays = byte_stays bytes more 1 (omega (arith, long))

  -- from the end of the header
  opened_onward : opened limit (bytes ++ more)
      ≡ onward limit (flag_of bytes) (bytes ++ more) (opened limit bytes)
  unfolding opened
  opened_onward =
      (λ i. unless (limit_fault limit (need_of 24 (count_stays i) (flag_stays i)))
      (walk limit (flag_stays i) (bytes ++ more) (count_stays i) 24 []))
      ∙ through limit (flag_of bytes) (bytes ++ more) (limit_fault limit (need_of 24 (count_of bytes) (flag_of bytes)))
      _ _ (walk_onward limit (flag_of bytes) bytes more (count_of bytes) 24 [])

  -- from the first byte, once the header is there
  pub plan_onward : plan limit (bytes ++ more)
      ≡ onward limit (flag_of bytes) (bytes ++ more) (plan limit bytes)
  unfolding plan
  plan_onward =
      let front : take 24 (bytes ++ more) ≡ take 24 bytes = take-append-le 24 bytes more long in
      let all = length-append bytes more in
      let there : nat_lt (length bytes) 24 ≡ false = grind (arith, nat_tests, long) in
      let there' : nat_lt (length (bytes ++ more)) 24 ≡ false = grind (arith, nat_tests, long, all) in
      (λ i. unless (header_fault (front i)) (if there' i then Begins else opened limit (bytes ++ more)))
      ∙ through limit (flag_of bytes) (bytes ++ more) (header_fault (take 24 bytes)) _ _ opened_onward
      ∙ sym (λ i. onward limit (flag_of bytes) (bytes ++ more)
      (unless (header_fault (take 24 bytes)) (if there i then Begins else opened limit bytes)))

-- ---- a fault of a header that is still coming

-- a guarded test that found a fault had its bytes
guarded : (i : ℕ) (bytes : List ℕ) (test : Bool) (bad found : BadImage)
    → fails (nat_lt i (length bytes) && test) bad ≡ Some found → i < length bytes
guarded i bytes test bad found is = by (nat_lt i (length bytes)) refl is
  where
    by : (t : Bool) → nat_lt i (length bytes) ≡ t → fails (t && test) bad ≡ Some found → i < length bytes
    by true there is = grind (arith, nat_tests, there)
    by false none is = absurd (none-some found is)

module _ (bytes more : List ℕ) where
  -- a guarded test on bytes that are there tells the same when others follow
  guard_stays : (i : ℕ) → i < length bytes → nat_lt i (length (bytes ++ more)) ≡ nat_lt i (length bytes)
  guard_stays i inside =
      let all = length-append bytes more in
      let here : nat_lt i (length bytes) ≡ true = grind (arith, nat_tests, inside) in
      let there : nat_lt i (length (bytes ++ more)) ≡ true = grind (arith, nat_tests, inside, all) in
      there ∙ sym here

  magic_stays : 0 < length bytes → magic_fault (bytes ++ more) ≡ magic_fault bytes
  magic_stays inside =
      let byte = byte_stays bytes more 0 inside in
      let guard = guard_stays 0 inside in
      λ i. fails (guard i && not (byte i == 0xE9)) (Magic (byte i))

  segments_stay : 1 < length bytes → segments_fault (bytes ++ more) ≡ segments_fault bytes
  segments_stay inside =
      let byte = byte_stays bytes more 1 inside in
      let guard = guard_stays 1 inside in
      λ i. fails (guard i && ((byte i == 0) || nat_lt 16 (byte i))) (Segments (byte i))

  chip_stays : 13 < length bytes → chip_fault (bytes ++ more) ≡ chip_fault bytes
  chip_stays inside =
      let guard = guard_stays 13 inside in
      let number : little_number 2 (drop 12 (bytes ++ more)) ≡ little_number 2 (drop 12 bytes) =
      ap (little_number 2) (drop-append-le 12 bytes more (omega (arith, inside)))
      ∙ little_from-append 2 (drop 12 bytes) more (omega (arith, inside, length-drop 12 bytes)) in
      λ i. fails (guard i && not (number i == 0)) (Chip (number i))

  flagged_stays : 23 < length bytes → flag_fault (bytes ++ more) ≡ flag_fault bytes
  flagged_stays inside =
      let byte = byte_stays bytes more 23 inside in
      let guard = guard_stays 23 inside in
      λ i. fails (guard i && nat_lt 1 (byte i)) (Flag (byte i))

  -- the later of two faults stays where the earlier test stays
  later_stays : (here there later later' : Option BadImage) (bad : BadImage)
      → (later ≡ Some bad → there ≡ here) → (here ≡ Some bad → there ≡ here)
      → (later ≡ Some bad → later' ≡ Some bad)
      → first here later ≡ Some bad → first there later' ≡ Some bad
  later_stays None there later later' bad deep own on is = ap (λ (o : Option BadImage). first o later') (deep is) ∙ on is
  later_stays (Some found) there later later' bad deep own on is =
      ap (λ (o : Option BadImage). first o later') (own is) ∙ is

  -- the fault of a header stays
  pub header_stays : (bad : BadImage) → header_fault bytes ≡ Some bad → header_fault (bytes ++ more) ≡ Some bad
  unfolding header_fault
  header_stays bad is =
      let deep_flag : flag_fault bytes ≡ Some bad → 23 < length bytes = λ found.
      guarded 23 bytes _ (Flag (flag_of bytes)) bad found in
      let own_chip : chip_fault bytes ≡ Some bad → 13 < length bytes = λ found.
      guarded 13 bytes _ (Chip (little_number 2 (drop 12 bytes))) bad found in
      let own_segments : segments_fault bytes ≡ Some bad → 1 < length bytes = λ found.
      guarded 1 bytes _ (Segments (count_of bytes)) bad found in
      let own_magic : magic_fault bytes ≡ Some bad → 0 < length bytes = λ found.
      guarded 0 bytes _ (Magic (slice_index bytes 0)) bad found in
      let deep_chip : first (chip_fault bytes) (flag_fault bytes) ≡ Some bad → 13 < length bytes =
      deeper (chip_fault bytes) (flag_fault bytes) bad 13 own_chip
      (λ found. omega (arith, deep_flag found)) in
      let deep_segments : first (segments_fault bytes) (first (chip_fault bytes) (flag_fault bytes)) ≡ Some bad
      → 1 < length bytes =
      deeper (segments_fault bytes) _ bad 1 own_segments (λ found. omega (arith, deep_chip found)) in
      later_stays _ _ _ _ bad (λ found. magic_stays (omega (arith, deep_segments found)))
      (λ found. magic_stays (own_magic found))
      (later_stays _ _ _ _ bad (λ found. segments_stay (omega (arith, deep_chip found)))
      (λ found. segments_stay (own_segments found))
      (later_stays _ _ _ _ bad (λ found. chip_stays (omega (arith, deep_flag found)))
      (λ found. chip_stays (own_chip found))
      (λ found. flagged_stays (deep_flag found) ∙ found))) is
    where
      deeper : (one other : Option BadImage) (found : BadImage) (n : ℕ)
          → (one ≡ Some found → n < length bytes) → (other ≡ Some found → n < length bytes)
          → first one other ≡ Some found → n < length bytes
      deeper None other found n own deep is = deep is
      deeper (Some bad) other found n own deep is = own is

-- a fault stays when bytes follow
pub plan_faulty : (limit : ℕ) (bytes more : List ℕ) (bad : BadImage)
    → plan limit bytes ≡ Faulty bad → plan limit (bytes ++ more) ≡ Faulty bad
unfolding plan
plan_faulty limit bytes more bad is =
    elim (cases_lt (length bytes) 24) [
      | inl short ↦ early short
      | inr long ↦ plan_onward limit bytes more long
          ∙ ap (onward limit (flag_of bytes) (bytes ++ more)) is
    ]
  where
    early : length bytes < 24 → plan limit (bytes ++ more) ≡ Faulty bad
    early short =
        let whole : take 24 bytes ≡ bytes = take_all 24 bytes (omega (arith, short)) in
        let few : nat_lt (length bytes) 24 ≡ true = grind (arith, nat_tests, short) in
        let found : header_fault bytes ≡ Some bad =
        unless_faulty (header_fault bytes) bad
        (sym (λ i. unless (header_fault (whole i)) (if few i then Begins else opened limit bytes)) ∙ is) in
        let room : 24 ≡ length bytes + (24 - length bytes) = omega (arith, short) in
        let front : take 24 (bytes ++ more) ≡ bytes ++ take (24 - length bytes) more =
        ap (λ n. take n (bytes ++ more)) room ∙ take-append-add bytes more (24 - length bytes) in
        let still : header_fault (take 24 (bytes ++ more)) ≡ Some bad =
        ap header_fault front ∙ header_stays bytes (take (24 - length bytes) more) bad found in
        ap (λ (fault : Option BadImage). unless fault
        (if nat_lt (length (bytes ++ more)) 24 then Begins else opened limit (bytes ++ more))) still

-- the value of an answer
some_is : (found why : BadImage) → Some found ≡ Some why → found ≡ why
some_is found why is = ap (λ (o : Option BadImage). value o) is
  where
    value : Option BadImage → BadImage
    value None = found
    value (Some bad) = bad

-- a fault that shows as the bytes come is where the reading has come to
early_faulty : (walk : Walk) (why : BadImage) → fault_in walk ≡ Some why → walk ≡ Faulty why
early_faulty (Faulty found) why is = ap Faulty (some_is found why is)
early_faulty Begins why is = absurd (none-some why is)
early_faulty (Reads heads end notes) why is = absurd (none-some why is)

-- it stays
pub early_stays : (limit : ℕ) (bytes more : List ℕ) (why : BadImage) → early limit bytes ≡ Some why
    → early limit (bytes ++ more) ≡ Some why
unfolding early
early_stays limit bytes more why is =
    ap fault_in (plan_faulty limit bytes more why (early_faulty (plan limit bytes) why is))

-- to the end
pub bad_stays : (limit : ℕ) (bytes more : List ℕ) (why : BadImage) → early limit bytes ≡ Some why
    → bad limit (bytes ++ more) ≡ Some why
unfolding early bad
bad_stays limit bytes more why is =
    ap (late (bytes ++ more)) (plan_faulty limit bytes more why (early_faulty (plan limit bytes) why is))
