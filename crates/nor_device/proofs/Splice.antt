-- A list with one of its parts replaced by another that is as long, byte by byte.
use Rattle.std.specs.Prelude.{◌≡◌, ℕ, ◌+◌, ◌-◌, ◌<◌, ◌≤◌, List, ◌++◌, length, take, drop, slice_index}
use Rattle.std.proofs.Common.{get_or, ◌∙◌, ap, arith, length-drop, length-append}
use Rattle.std.proofs.lemmas.List.{length-take, get_or-take, get_or-drop, get_or_append_left, get_or-append_right}

module _ (flash : List ℕ) (start len : ℕ) (mid : List ℕ)
    (same : length mid ≡ length (take len (drop start flash))) where
  -- the list with its part replaced
  abbrev pub spliced : List ℕ
  spliced = take start flash ++ mid ++ drop (start + len) flash

  -- it is as long as before
  pub length-spliced : length spliced ≡ length flash
  length-spliced =
      omega (
        arith,
        same,
        length-take start flash,
        length-take len (drop start flash),
        length-drop start flash,
        length-drop (start + len) flash,
        length-append (take start flash ++ mid) (drop (start + len) flash),
        length-append (take start flash) mid,
      )

  -- in front of the part nothing changed
  pub spliced_below : (i : ℕ) → i < start → i < length flash
      → slice_index spliced i ≡ slice_index flash i
  spliced_below i low inside =
      let front : i < length (take start flash) = omega (arith, length-take start flash) in
      let two : i < length (take start flash ++ mid) =
      omega (arith, front, length-append (take start flash) mid) in
      get_or_append_left (take start flash ++ mid) (drop (start + len) flash) 0 i two
      ∙ get_or_append_left (take start flash) mid 0 i front
      ∙ get_or-take start flash i 0 low

  -- in it stands the new part
  pub spliced_within : (i : ℕ) → start ≤ i → i < start + len → i < length flash
      → slice_index spliced i ≡ slice_index mid (i - start)
  spliced_within i from to inside =
      let front : length (take start flash) ≡ start = omega (arith, length-take start flash) in
      let two : i < length (take start flash ++ mid) =
      omega (
        arith,
        front,
        same,
        length-append (take start flash) mid,
        length-take len (drop start flash),
        length-drop start flash,
      ) in
      get_or_append_left (take start flash ++ mid) (drop (start + len) flash) 0 i two
      ∙ get_or-append_right (take start flash) mid start i 0 front from

  -- after it nothing changed
  pub spliced_above : (i : ℕ) → start + len ≤ i → i < length flash
      → slice_index spliced i ≡ slice_index flash i
  spliced_above i past inside =
      let two : length (take start flash ++ mid) ≡ start + len =
      omega (
        arith,
        same,
        length-append (take start flash) mid,
        length-take start flash,
        length-take len (drop start flash),
        length-drop start flash,
      ) in
      let back : start + len + (i - (start + len)) ≡ i = omega arith in
      get_or-append_right (take start flash ++ mid) (drop (start + len) flash)
      (start + len) i 0 two past
      ∙ get_or-drop (start + len) flash (i - (start + len)) 0
      ∙ ap (λ (k : ℕ). get_or flash k 0) back

  -- what stood in the part before
  pub part_byte : (i : ℕ) → start ≤ i → i < start + len
      → slice_index (take len (drop start flash)) (i - start) ≡ slice_index flash i
  part_byte i from to =
      let back : start + (i - start) ≡ i = omega arith in
      let short : i - start < len = omega arith in
      get_or-take len (drop start flash) (i - start) 0 short ∙ get_or-drop start flash (i - start) 0
      ∙ ap (λ (k : ℕ). get_or flash k 0) back
