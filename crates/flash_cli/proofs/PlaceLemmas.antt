-- Bytes that stand at a place of a flash.
use Rattle.std.proofs.Common.{◌≡◌, ℕ, ◌+◌, ◌<◌, ◌≤◌, List, ◌++◌, length, take, drop, get_or, refl, sym, ap, ◌∙◌, ◌⊎◌, inl, inr, arith, append_assoc}
use Rattle.std.proofs.lemmas.List.{drop_at, ext_get_or, get_or-drop, get_or-take, length-drop, length-take, length-take-le, take_at}
use Rattle.nor_device.proofs.Splice.{length-spliced, spliced_above, spliced_below}
use Rattle.flash_cli.specs.FlashMake.{with_at}

module _ (flash : List ℕ) (at : ℕ) (part : List ℕ) (fits : at + length part ≤ length flash) where
  -- as many bytes stood there before
  as_many : length part ≡ length (take (length part) (drop at flash))
  as_many = omega (arith, length-take (length part) (drop at flash), length-drop at flash)

  -- the flash is as long as before
  pub length-with : length (with_at at part flash) ≡ length flash
  length-with = length-spliced flash at (length part) part as_many

  -- the bytes stand at their place
  pub part_there : take (length part) (drop at (with_at at part flash)) ≡ part
  part_there =
      let behind = drop (at + length part) flash in
      let front : length (take at flash) ≡ at = omega (arith, length-take at flash) in
      ap (λ (xs : List ℕ). take (length part) (drop at xs)) (append_assoc (take at flash) part behind)
      ∙ ap (take (length part)) (drop_at (take at flash) (part ++ behind) at front)
      ∙ take_at part behind (length part) refl

  -- a byte before them or behind them is as before
  byte_there : (i : ℕ) → (i < at) ⊎ (at + length part ≤ i) → i < length flash
      → get_or (with_at at part flash) i 0 ≡ get_or flash i 0
  byte_there i (inl before) inside = spliced_below flash at (length part) part as_many i before inside
  byte_there i (inr behind) inside = spliced_above flash at (length part) part as_many i behind inside

  -- bytes before them or behind them are as before
  pub others_there : (a n : ℕ) → (a + n ≤ at) ⊎ (at + length part ≤ a) → a + n ≤ length flash
      → take n (drop a (with_at at part flash)) ≡ take n (drop a flash)
  others_there a n apart inside =
      let new = with_at at part flash in
      let long = length-with in
      let left : length (take n (drop a new)) ≡ n =
      length-take-le n (drop a new) (omega (arith, length-drop a new, long)) in
      let right : length (take n (drop a flash)) ≡ n =
      length-take-le n (drop a flash) (omega (arith, length-drop a flash)) in
      ext_get_or 0 _ _ (left ∙ sym right) (λ i below.
      let low : i < n = omega (arith, left) in
      get_or-take n (drop a new) i 0 low ∙ get_or-drop a new i 0
      ∙ byte_there (a + i) (by apart i low) (omega arith)
      ∙ sym (get_or-take n (drop a flash) i 0 low ∙ get_or-drop a flash i 0))
    where
      by : (a + n ≤ at) ⊎ (at + length part ≤ a) → (i : ℕ) → i < n → (a + i < at) ⊎ (at + length part ≤ a + i)
      by (inl before) i low = inl (omega arith)
      by (inr behind) i low = inr (omega arith)
