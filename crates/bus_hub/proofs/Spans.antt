-- Where the bytes of a range lie.
use Rattle.std.specs.Prelude.{◌≡◌, ◌≢◌, ℕ, ◌+◌, ◌-◌, ◌%◌, ◌<◌, ◌≤◌, min, List, length, drop, slice_index, refl, Option, Some, None, IfSome}
use Rattle.std.proofs.Common.{◌∙◌, sym, ap, subst, inl, inr, arith}
use Rattle.std.proofs.Math.Seq.{get_or-take, get_or-drop}
use Rattle.std.proofs.lemmas.Bool.{cases_lt}
use Rattle.nor_device.specs.Nor.{part_of}
use Rattle.mmu_map.specs.Map.{Map, translated}
use Rattle.mmu_map.proofs.InPage.{in_page}
use Rattle.bus_hub.specs.declared.span.Span.{Span}
use Rattle.bus_hub.specs.Fetch.{IsInFlash, IsReachable, IsUnmapped, ShowsByte, IsRead}
use Rattle.bus_hub.specs.Told.{IsSplit, IsBothParts}

-- what leads to an address of the flash or behind its end
in_flash : (to : Option ℕ) (n size : ℕ) → to ≡ Some n → n < size → IsInFlash to size
in_flash to n size is less = subst (λ (o : Option ℕ). IsInFlash o size) (sym is) less

not_in_flash : (to : Option ℕ) (n size : ℕ) → to ≡ Some n → size ≤ n → ¬ IsInFlash to size
not_in_flash to n size is more inside =
    let there : n < size = subst (λ (o : Option ℕ). IsInFlash o size) is inside in
    omega arith

module _ (m : Map) (size at len from front : ℕ) (small : len ≤ 256) (some : 1 ≤ len)
    (front_is : front ≡ min len (65536 - at % 65536)) (is : translated m at ≡ Some from) where
  -- addresses of the first page
  in_front : (i : ℕ) → i < front → translated m (at + i) ≡ Some (from + i)
  in_front i less = in_page m at i from is (omega arith)

  -- the first page reaches behind the flash's end
  pub front_beyond : size < from + front → IsUnmapped m size at len
  front_beyond past = record {
    place = size - from;
    within = omega arith;
    beyond = not_in_flash (translated m (at + (size - from))) (from + (size - from)) size
        (in_front (size - from) (omega arith)) (omega arith);
  }

  -- all bytes lie in the first page
  pub one_page : from + front ≤ size → front ≡ len
      → IsSplit m size at len (record { from = from; front = front; then = 0 })
  one_page inside whole = record {
    some = omega arith;
    most = omega arith;
    front_is = in_front;
    front_inside = inside;
    then_is = λ i less. absurd (omega arith);
    then_inside = λ less. absurd (omega arith);
  }

  module _ (then : ℕ) (differs : front ≢ len) (then_is : translated m (at + front)
      ≡ Some then) where
    -- the second page begins where the first one ends
    starts : (at + front) % 65536 ≡ 0
    starts = omega arith

    in_then : (i : ℕ) → front + i < len → translated m (at + (front + i)) ≡ Some (then + i)
    in_then i less =
        let e : at + front + i ≡ at + (front + i) = omega arith in
        subst (λ (n : ℕ). translated m n ≡ Some (then + i)) e
        (in_page m (at + front) i then then_is (omega (arith, starts)))

    -- the second page reaches behind the flash's end
    pub then_beyond : size < then + (len - front) → IsUnmapped m size at len
    then_beyond past = record {
      place = front + (size - then);
      within = omega arith;
      beyond = not_in_flash (translated m (at + (front + (size - then)))) (then + (size - then))
          size
          (in_then (size - then) (omega arith)) (omega arith);
    }

    -- the bytes lie in two pages
    pub two_pages : from + front ≤ size → then + (len - front) ≤ size
        → IsSplit m size at len (record { from = from; front = front; then = then })
    two_pages inside there = record {
      some = omega arith;
      most = omega arith;
      front_is = in_front;
      front_inside = inside;
      then_is = in_then;
      then_inside = λ less. there;
    }

-- a range that is split is reachable
pub split_reaches : (m : Map) (size at len : ℕ) (span : Span) → IsSplit m size at len span
    → IsReachable m size at len
split_reaches m size at len span split = record {
  reached = λ i less. elim (cases_lt i span.front) [
    | inl low ↦ in_flash (translated m (at + i)) (span.from + i) size (split.front_is i low)
        (omega (arith, split.front_inside))
    | inr high ↦
        let k = i - span.front in
        let e : span.front + k ≡ i = omega arith in
        let there : translated m (at + i) ≡ Some (span.then + k) =
        subst (λ (n : ℕ). translated m (at + n) ≡ Some (span.then + k)) e
        (split.then_is k (omega arith)) in
        in_flash (translated m (at + i)) (span.then + k) size there
        (omega (arith, split.then_inside (omega arith)))
  ];
}

-- it is not unmapped
pub reachable_mapped : (m : Map) (size at len : ℕ) → IsReachable m size at len
    → ¬ IsUnmapped m size at len
reachable_mapped m size at len reach unmapped =
    unmapped.beyond (reach.reached unmapped.place unmapped.within)

-- a byte of a part of the flash
part_byte : (flash : List ℕ) (from n i : ℕ) → i < n
    → slice_index (part_of flash from n) i ≡ slice_index flash (from + i)
part_byte flash from n i less =
    get_or-take n (drop from flash) i 0 less ∙ get_or-drop from flash i 0

shown : (to : Option ℕ) (n : ℕ) (flash : List ℕ) (byte : ℕ) → to ≡ Some n → n < length flash
    → byte ≡ slice_index flash n → ShowsByte to flash byte
shown to n flash byte is less same =
    subst (λ (o : Option ℕ). ShowsByte o flash byte) (sym is) (less, same)

-- the bytes of both parts are those behind the map
pub parts_read : (m : Map) (size at : ℕ) (span : Span) (told : Option (List ℕ)) (out : List ℕ)
    → IsSplit m size at (length out) span
    → ((flash : List ℕ) → told ≡ Some flash → length flash ≡ size) → IsBothParts told span out
    → IfSome told (λ flash. IsRead m flash at out)
parts_read m size at span None out split sized parts = tt
parts_read m size at span (Some flash) out split sized parts =
    let many : length flash ≡ size = sized flash refl in
    record {
      shown = λ i less. elim (cases_lt i span.front) [
        | inl low ↦
            shown (translated m (at + i)) (span.from + i) flash (slice_index out i)
            (split.front_is i low) (omega (arith, split.front_inside))
            (sym (get_or-take span.front out i 0 low)
            ∙ ap (λ (part : List ℕ). slice_index part i) parts.0
            ∙ part_byte flash span.from span.front i low)
        | inr high ↦
            let k = i - span.front in
            let e : span.front + k ≡ i = omega arith in
            let there : translated m (at + i) ≡ Some (span.then + k) =
            subst (λ (n : ℕ). translated m (at + n) ≡ Some (span.then + k)) e
            (split.then_is k (omega arith)) in
            shown (translated m (at + i)) (span.then + k) flash (slice_index out i) there
            (omega (arith, split.then_inside (omega arith)))
            (ap (λ (n : ℕ). slice_index out n) (sym e) ∙ sym (get_or-drop span.front out k 0)
            ∙ ap (λ (part : List ℕ). slice_index part k) (parts.1 (omega arith))
            ∙ part_byte flash span.then (length out - span.front) k (omega arith))
      ];
    }
