-- The image that bytes begin with: at most one, and what the bytes of a slot hold.
use Rattle.std.proofs.Common.{◌≡◌, ℕ, ◌+◌, ◌≤◌, List, [], ◌∷◌, ◌++◌, length, take, drop, refl, sym, ap, ◌∙◌, arith, subst}
use Rattle.std.specs.Prelude.{Option, Some, None}
use Rattle.std.proofs.lemmas.List.{append_assoc, length-append, length-take, length-take-le, take_at, take_min, take-append-drop}
use Rattle.std.proofs.lemmas.Option.{none-some}
use Rattle.image_layout.specs.Segment.{text}
use Rattle.image_layout.specs.Whole.{data_end, summed, Whole}
use Rattle.image_verify.specs.declared.bad.BadImage.{BadImage}
use Rattle.image_verify.specs.declared.info.SegmentNote.{SegmentNote}
use Rattle.image_verify.specs.Places.{flag_of, need_of}
use Rattle.image_verify.specs.Walk.{Walk, Faulty, Reads, plan}
use Rattle.image_verify.specs.Bad.{bad}
use Rattle.image_verify.specs.Held.{extent_by, extent, faultless, held, IsHeld}
use Rattle.image_verify.proofs.Reading.{walk_end}
use Rattle.image_verify.proofs.PlanFacts.{plan_reads}
use Rattle.image_verify.proofs.Longer.{byte_stays, onward, plan_onward, plan_faulty}
use Rattle.image_verify.proofs.WholeFacts.{flag_is, plan_image, summed_long, digest_long, whole_shows_none, whole_from_none}

-- a whole image is whole within a wider limit
pub whole_wider : (bytes : List ℕ) (limit wider : ℕ) → Whole bytes limit → length bytes ≤ wider → Whole bytes wider
whole_wider bytes limit wider whole fits = record {
  parts = whole.parts;
  image = whole.image;
  text = whole.text;
  fits = fits;
}

-- the reading of bytes that begin with a whole image tells how long it is
pub whole_extent : (limit : ℕ) (image rest : List ℕ) → Whole image limit
    → extent limit (image ++ rest) ≡ length image
unfolding extent
whole_extent limit bytes rest whole =
    let p = whole.parts in
    let all = bytes ++ rest in
    let behind = p.padding ++ ((p.checksum ∷ []) ++ (p.digest ++ rest)) in
    let apart : all ≡ p.header ++ (text p.segments ++ behind) =
    ap (λ (xs : List ℕ). xs ++ rest) whole.text ∙ simp append_assoc in
    let flag = flag_is p whole.image all behind apart in
    let digest_is = digest_long p whole.image in
    let summed_is = summed_long p whole.image in
    let same : need_of (data_end p) 0 (flag_of all) ≡ length bytes =
    omega (arith, ap length whole.text, length-append (summed p) p.digest, summed_is, digest_is, flag) in
    let planned = plan_image p whole.image all behind apart limit (omega (arith, same, whole.fits)) in
    ap (extent_by all) planned ∙ same

-- at most one whole image begins any bytes, whatever the limits
pub one_whole : (first second more others : List ℕ) (limit limit' : ℕ)
    → Whole first limit → Whole second limit' → first ++ more ≡ second ++ others → first ≡ second
one_whole first second more others limit limit' one two same =
    let wide = length first + length second in
    let long = whole_extent wide first more (whole_wider first limit wide one (omega arith)) in
    let long' = whole_extent wide second others (whole_wider second limit' wide two (omega arith)) in
    let equal : length first ≡ length second = sym long ∙ ap (extent wide) same ∙ long' in
    sym (take_at first more (length first) refl) ∙ ap (take (length first)) same
    ∙ take_at second others (length first) (sym equal)

-- a slot holds the whole image that its bytes begin with
pub held_from : (slot image : List ℕ) → take (length image) slot ≡ image → Whole image (length slot)
    → held slot ≡ Some image
unfolding held
held_from slot image begins whole =
    let apart : image ++ drop (length image) slot ≡ slot =
    ap (λ (xs : List ℕ). xs ++ drop (length image) slot) (sym begins) ∙ take-append-drop (length image) slot in
    let long : extent (length slot) slot ≡ length image =
    ap (extent (length slot)) (sym apart) ∙ whole_extent (length slot) image (drop (length image) slot) whole in
    let front : take (extent (length slot) slot) slot ≡ image = ap (λ n. take n slot) long ∙ begins in
    let none : bad (length slot) (take (extent (length slot) slot) slot) ≡ None =
    ap (bad (length slot)) front ∙ whole_shows_none (length slot) image whole in
    ap (λ (fault : Option BadImage). faultless fault (take (extent (length slot) slot) slot)) none ∙ ap Some front

-- bytes without a fault
faultless_some : (fault : Option BadImage) (bytes image : List ℕ) → faultless fault bytes ≡ Some image
    → (fault ≡ None) × (bytes ≡ image)
faultless_some None bytes image is = (refl, ap (λ (o : Option (List ℕ)). value o) is)
  where
    value : Option (List ℕ) → List ℕ
    value None = bytes
    value (Some xs) = xs
faultless_some (Some bad) bytes image is = absurd (none-some image is)

-- the first bytes of a list are as many as they are
take_own : (n : ℕ) (xs : List ℕ) → take (length (take n xs)) xs ≡ take n xs
take_own n xs = ap (λ k. take k xs) (length-take n xs) ∙ take_min n xs

-- what a slot holds
pub held_is : (slot image : List ℕ) → held slot ≡ Some image → IsHeld slot image
unfolding held
held_is slot image is =
    let n = extent (length slot) slot in
    let front = take n slot in
    let both = faultless_some (bad (length slot) front) front image is in
    record {
      begins = ap (λ (xs : List ℕ). take (length xs) slot) (sym both.1) ∙ take_own n slot ∙ both.1;
      whole = subst (λ (xs : List ℕ). Whole xs (length slot)) both.1 (whole_from_none (length slot) front both.0);
    }

-- the first bytes of a slot that show no fault are what it holds
pub held_front : (slot : List ℕ) (n : ℕ) → bad (length slot) (take n slot) ≡ None
    → held slot ≡ Some (take n slot)
held_front slot n none =
    held_from slot (take n slot) (take_own n slot) (whole_from_none (length slot) (take n slot) none)

-- a whole image has some bytes
whole_long : (limit : ℕ) (image : List ℕ) → Whole image limit → 1 ≤ length image
whole_long limit image whole =
    let p = whole.parts in
    omega (arith, ap length whole.text, length-append (summed p) p.digest, summed_long p whole.image)

-- a slot that begins with bytes which are all that an image needs, and show a fault, holds nothing
pub held_ends : (slot : List ℕ) (n : ℕ) (end : ℕ) (notes : List SegmentNote) (why : BadImage)
    → plan (length slot) (take n slot) ≡ Reads 0 end notes
    → need_of end 0 (flag_of (take n slot)) ≡ n → n ≤ length slot
    → bad (length slot) (take n slot) ≡ Some why → held slot ≡ None
unfolding extent
held_ends slot n end notes why planned need inside found = by (held slot) refl
  where
    by : (image : Option (List ℕ)) → held slot ≡ image → held slot ≡ None
    by None is = is
    by (Some image) is =
        let holds = held_is slot image is in
        let long = length-take-le n slot inside in
        let apart : slot ≡ image ++ drop (length image) slot =
        sym (take-append-drop (length image) slot)
        ∙ ap (λ (xs : List ℕ). xs ++ drop (length image) slot) holds.begins in
        let split : slot ≡ take n slot ++ drop n slot = sym (take-append-drop n slot) in
        let opened = plan_reads (length slot) (take n slot) 0 end notes planned in
        let onward_is : plan (length slot) slot ≡ Reads 0 end notes =
        ap (plan (length slot)) split ∙ plan_onward (length slot) (take n slot) (drop n slot) opened.long
        ∙ ap (onward (length slot) (flag_of (take n slot)) (take n slot ++ drop n slot)) planned
        ∙ walk_end (length slot) (flag_of (take n slot)) (take n slot ++ drop n slot) end notes in
        let flag : flag_of slot ≡ flag_of (take n slot) =
        ap flag_of split ∙ byte_stays (take n slot) (drop n slot) 23 (omega (arith, opened.long)) in
        let size : length image ≡ n =
        sym (ap (extent (length slot)) apart ∙ whole_extent (length slot) image (drop (length image) slot) holds.whole)
        ∙ ap (extent_by slot) onward_is ∙ ap (λ d. need_of end 0 d) flag ∙ need in
        let same : take n slot ≡ image = ap (λ k. take k slot) (sym size) ∙ holds.begins in
        absurd (none-some why (sym (ap (bad (length slot)) same
        ∙ whole_shows_none (length slot) image holds.whole) ∙ found))

-- a slot whose bytes need nothing by their reading holds nothing
pub held_nothing : (slot : List ℕ) {walk : Walk} → plan (length slot) slot ≡ walk → extent_by slot walk ≡ 0
    → held slot ≡ None
unfolding extent
held_nothing slot {walk = walk} planned none = by (held slot) refl
  where
    by : (image : Option (List ℕ)) → held slot ≡ image → held slot ≡ None
    by None is = is
    by (Some image) is =
        let holds = held_is slot image is in
        let apart : slot ≡ image ++ drop (length image) slot =
        sym (take-append-drop (length image) slot)
        ∙ ap (λ (xs : List ℕ). xs ++ drop (length image) slot) holds.begins in
        let long : length image ≡ 0 =
        sym (ap (extent (length slot)) apart ∙ whole_extent (length slot) image (drop (length image) slot) holds.whole)
        ∙ ap (extent_by slot) planned ∙ none in
        absurd (omega (arith, long, whole_long (length slot) image holds.whole))

-- a slot whose first bytes show a fault as they come holds nothing
pub held_faulty : (slot : List ℕ) (n : ℕ) (why : BadImage) → plan (length slot) (take n slot) ≡ Faulty why
    → held slot ≡ None
held_faulty slot n why faulty =
    held_nothing slot (ap (plan (length slot)) (sym (take-append-drop n slot))
    ∙ plan_faulty (length slot) (take n slot) (drop n slot) why faulty) refl
