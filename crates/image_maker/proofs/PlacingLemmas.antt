-- Parts placed one after the other.
use Rattle.std.proofs.Common.{◌≡◌, ℕ, zero, suc, ◌+◌, ◌≤◌, List, [], ◌∷◌, ◌++◌, length, Option, Some, None, refl, sym, ap, ◌∙◌, arith}
use Rattle.std.specs.Prelude.{replicate, bit_xor}
use Rattle.std.specs.Int.Bits.{xor_zero_r}
use Rattle.std.proofs.lemmas.List.{append_assoc, append-nil, length-append, length-replicate, map-append}
use Rattle.byteorder.specs.Endian.{little_bytes}
use Rattle.byteorder.specs.Numbers.{length-bytes_low_first}
use Rattle.image_layout.specs.declared.segment.SegmentHead.{SegmentHead}
use Rattle.image_layout.specs.Segment.{Segment, head_bytes, text, contents}
use Rattle.image_layout.specs.Whole.{xor_all}
use Rattle.image_maker.specs.declared.place.Size.{Size}
use Rattle.image_maker.specs.Placing.{Part, Placed, Padding, Given, padding_of, set_down, placed, segment_of, segments_of, text_from, data_from}
use Rattle.image_maker.specs.Sizes.{size_after}

-- a head has 8 bytes
pub length-head : (h : SegmentHead) → length (head_bytes h) ≡ 8
unfolding head_bytes
length-head h =
    let first = length-bytes_low_first 0 4 h.load in
    let second = length-bytes_low_first 0 4 h.length in
    omega (arith, length-append (little_bytes 4 h.load) (little_bytes 4 h.length), first, second)

-- a part and those after it are as long as it is and as they are
pub length-given : (p : Part) (rest : List Placed)
    → length (text (segments_of (Given p ∷ rest))) ≡ 8 + length p.content + length (text (segments_of rest))
length-given p rest =
    let s = segment_of (Given p) in
    let outer = length-append (s.head ++ s.content) (text (segments_of rest)) in
    let inner = length-append s.head s.content in
    omega (arith, outer, inner, length-head (record { load = p.load; length = length p.content }))

-- and so padding and those after it
pub length-padding : (n : ℕ) (rest : List Placed)
    → length (text (segments_of (Padding n ∷ rest))) ≡ 8 + n + length (text (segments_of rest))
length-padding n rest =
    let s = segment_of (Padding n) in
    let outer = length-append (s.head ++ s.content) (text (segments_of rest)) in
    let inner = length-append s.head s.content in
    omega (arith, outer, inner, length-head (record { load = 0; length = n }), length-replicate {A = ℕ} n 0)

-- one part is placed, and then the others
pub size_step : (size next : Size) (p : Part) (left ps : List Part) → left ≡ p ∷ ps
    → next ≡ size_after size.count size.end (padding_of size.end p.load (length p.content)) (length p.content)
    → (next.count + length (placed ps next.end) ≡ size.count + length (placed left size.end))
    × (next.end + length (text_from ps next.end) ≡ size.end + length (text_from left size.end))
size_step size next p left ps is after =
    let told = by (padding_of size.end p.load (length p.content)) next after in (
      told.0 ∙ ap (λ (qs : List Part). size.count + length (placed qs size.end)) (sym is),
      told.1 ∙ ap (λ (qs : List Part). size.end + length (text_from qs size.end)) (sym is),
    )
  where
    by : (o : Option ℕ) (next : Size) → next ≡ size_after size.count size.end o (length p.content)
        → (next.count + length (placed ps next.end) ≡ size.count + length (set_down o p (placed ps) size.end))
        × (next.end + length (text_from ps next.end)
        ≡ size.end + length (text (segments_of (set_down o p (placed ps) size.end))))
    by None next after =
        let here = size.end + 8 + length p.content in
        let long = length-given p (placed ps here) in
        let count : size.count + 1 + length (placed ps here) ≡ size.count + suc (length (placed ps here)) = omega arith in
        let end : here + length (text_from ps here) ≡ size.end + length (text (segments_of (Given p ∷ placed ps here))) = omega (arith, long) in
        rw after (count, end)
    by (Some n) next after =
        let here = size.end + 8 + n + 8 + length p.content in
        let long = length-given p (placed ps here) in
        let more = length-padding n (Given p ∷ placed ps here) in
        let count : size.count + 2 + length (placed ps here) ≡ size.count + suc (suc (length (placed ps here))) = omega arith in
        let end : here + length (text_from ps here) ≡ size.end + length (text (segments_of (Padding n ∷ Given p ∷ placed ps here))) = omega (arith, long, more) in
        rw after (count, end)

-- the text of segments and of more segments
text-append : (ss tt : List Segment) → text (ss ++ tt) ≡ text ss ++ text tt
text-append [] tt = refl
text-append (s ∷ ss) tt = ap (λ (xs : List ℕ). s.head ++ s.content ++ xs) (text-append ss tt)
    ∙ sym (append_assoc (s.head ++ s.content) (text ss) (text tt))

-- the data of segments and of more segments
contents-append : (ss tt : List Segment) → contents (ss ++ tt) ≡ contents ss ++ contents tt
contents-append [] tt = refl
contents-append (s ∷ ss) tt = ap (λ (xs : List ℕ). s.content ++ xs) (contents-append ss tt)
    ∙ sym (append_assoc s.content (contents ss) (contents tt))

-- Parts are placed from a place on.
module _ (p : Part) (ps : List Part) (at : ℕ) where
  -- the place after the first one
  abbrev pub after_one : ℕ
  after_one = at + length (text_from (p ∷ []) at)

  -- the first one, and then the others
  pub placed_more : placed (p ∷ ps) at ≡ placed (p ∷ []) at ++ placed ps after_one
  placed_more = by (padding_of at p.load (length p.content))
    where
      by : (o : Option ℕ) → set_down o p (placed ps) at ≡ set_down o p (placed []) at
          ++ placed ps (at + length (text (segments_of (set_down o p (placed []) at))))
      by None =
          let long = length-given p [] in
          let end : at + 8 + length p.content ≡ at + length (text (segments_of (Given p ∷ []))) = omega (arith, long) in
          ap (λ n. Given p ∷ placed ps n) end
      by (Some n) =
          let long = length-given p [] in
          let more = length-padding n (Given p ∷ []) in
          let end : at + 8 + n + 8 + length p.content ≡ at + length (text (segments_of (Padding n ∷ Given p ∷ []))) =
          omega (arith, long, more) in
          ap (λ n'. Padding n ∷ Given p ∷ placed ps n') end

  -- their segments
  segments_more : segments_of (placed (p ∷ ps) at) ≡ segments_of (placed (p ∷ []) at) ++ segments_of (placed ps after_one)
  segments_more = ap segments_of placed_more ∙ map-append segment_of (placed (p ∷ []) at) (placed ps after_one)

  -- their bytes
  pub text_more : text_from (p ∷ ps) at ≡ text_from (p ∷ []) at ++ text_from ps after_one
  text_more = ap text segments_more ∙ text-append (segments_of (placed (p ∷ []) at)) (segments_of (placed ps after_one))

  -- their data
  pub data_more : data_from (p ∷ ps) at ≡ data_from (p ∷ []) at ++ data_from ps after_one
  data_more = ap contents segments_more ∙ contents-append (segments_of (placed (p ∷ []) at)) (segments_of (placed ps after_one))

-- the exclusive or of bytes and of more bytes
xor_all-append : (sum : ℕ) (xs ys : List ℕ) → xor_all sum (xs ++ ys) ≡ xor_all (xor_all sum xs) ys
xor_all-append sum [] ys = refl
xor_all-append sum (x ∷ xs) ys = xor_all-append (bit_xor sum x) xs ys

-- zeros change no exclusive or
xor_all-zeros : (sum n : ℕ) → xor_all sum (replicate n 0) ≡ sum
xor_all-zeros sum zero = refl
xor_all-zeros sum (suc n) = ap (λ s. xor_all s (replicate n 0)) (xor_zero_r sum) ∙ xor_all-zeros sum n

-- the exclusive or of a part with its padding is that of its data
pub xor_one : (sum : ℕ) (p : Part) (at : ℕ) → xor_all sum (data_from (p ∷ []) at) ≡ xor_all sum p.content
xor_one sum p at = by (padding_of at p.load (length p.content))
  where
    by : (o : Option ℕ) → xor_all sum (contents (segments_of (set_down o p (placed []) at))) ≡ xor_all sum p.content
    by None = ap (xor_all sum) (append-nil p.content)
    by (Some n) =
        xor_all-append sum (replicate n 0) (p.content ++ [])
        ∙ ap (λ s. xor_all s (p.content ++ [])) (xor_all-zeros sum n) ∙ ap (xor_all sum) (append-nil p.content)

-- An image so far, and parts that are left, of which p is the first.
module _ (image next : List ℕ) (p : Part) (left ps : List Part) (is : left ≡ p ∷ ps)
    (grown : next ≡ image ++ text_from (p ∷ []) (length image)) where
  -- the image ends after the part
  end_is : length next ≡ after_one p ps (length image)
  end_is = ap length grown ∙ length-append image (text_from (p ∷ []) (length image))

  -- image and parts are together the same
  pub image_step : (whole : List ℕ) → image ++ text_from left (length image) ≡ whole
      → next ++ text_from ps (length next) ≡ whole
  image_step whole so_far =
      (λ i. grown i ++ text_from ps (end_is i))
      ∙ append_assoc image (text_from (p ∷ []) (length image)) (text_from ps (after_one p ps (length image)))
      ∙ ap (λ (xs : List ℕ). image ++ xs) (sym (text_more p ps (length image)))
      ∙ ap (λ (qs : List Part). image ++ text_from qs (length image)) (sym is) ∙ so_far

  -- checksum and data are together the same
  pub sum_step : (sum sum' all : ℕ) → sum' ≡ xor_all sum p.content → xor_all sum (data_from left (length image)) ≡ all
      → xor_all sum' (data_from ps (length next)) ≡ all
  sum_step sum sum' all summed so_far =
      (λ i. xor_all (summed i) (data_from ps (end_is i)))
      ∙ ap (λ s. xor_all s (data_from ps (after_one p ps (length image)))) (sym (xor_one sum p (length image)))
      ∙ sym (xor_all-append sum (data_from (p ∷ []) (length image)) (data_from ps (after_one p ps (length image))))
      ∙ ap (xor_all sum) (sym (data_more p ps (length image)))
      ∙ ap (λ (qs : List Part). xor_all sum (data_from qs (length image))) (sym is) ∙ so_far

-- a part is no longer than the text of parts that begin with it
pub part_within : (p : Part) (ps : List Part) (at : ℕ) → length p.content ≤ length (text_from (p ∷ ps) at)
part_within p ps at = by (padding_of at p.load (length p.content))
  where
    by : (o : Option ℕ) → length p.content ≤ length (text (segments_of (set_down o p (placed ps) at)))
    by None = let long = length-given p (placed ps (at + 8 + length p.content)) in omega (arith, long)
    by (Some n) =
        let rest = placed ps (at + 8 + n + 8 + length p.content) in
        let long = length-given p rest in
        let more = length-padding n (Given p ∷ rest) in
        omega (arith, long, more)
