-- The pages of an application are free as they are fixed, and can be looked at.
use Rattle.std.specs.Prelude.{◌≡◌, ℕ, ◌+◌, ◌-◌, ◌/◌, ◌%◌, ◌<◌, ◌≤◌, ◌^◌, Bool, true, false, if◌then◌else◌, List, [], ◌∷◌, ◌++◌, length, Option, Some, None, IfSome, nat_lt, ◌&&◌, refl}
use Rattle.std.proofs.Common.{◌∙◌, ap, sym, subst, arith}
use Rattle.std.proofs.lemmas.List.{length-append}
use Rattle.image_layout.specs.declared.space.Space.{Space}
use Rattle.image_layout.specs.declared.space.Space.TheVariants.{Data, Code}
use Rattle.image_verify.specs.declared.info.SegmentNote.{SegmentNote}
use Rattle.image_layout.specs.Segment.{AreSegments, IsSegment, Segment, load_of, text}
use Rattle.image_layout.specs.Whole.{Parts, Whole, summed}
use Rattle.image_verify.specs.declared.info.ImageInfo.{ImageInfo}
use Rattle.image_verify.specs.Info.{IsInfo, is_mapped, later, mapped_in}
use Rattle.image_verify.specs.Places.{notes_from}
use Rattle.std.proofs.lemmas.Bool.Decides.{nat_tests}
use Rattle.image_layout.specs.Space.{is_code, is_data, may_load}
use Rattle.mmu_map.specs.declared.page_use.PageUse.{PageUse}
use Rattle.mmu_map.specs.declared.place.Place.{Place}
use Rattle.mmu_map.specs.Place.{address_of, pages_in, place, place_of, start_of}
use Rattle.mmu_map.specs.Runs.{AreFree, fixed_run}
use Rattle.mmu_map.specs.Map.{AreFreeFrom, IsFreeRun, IsWhole, Map, empty, uses_in, with_run_at}
use Rattle.mmu_map.proofs.Places.{place_of_address}
use Rattle.mmu_map.proofs.Empty.{empty_is_free, page_start as page_start_of}
use Rattle.mmu_map.specs.Calls.{FixedAt}
use Rattle.mmu_map.proofs.Addresses.{empty_good}
use Rattle.mmu_map.proofs.Fixed.{keeps}
use Rattle.bus_hub.specs.Fetch.{IsFixed}
use Rattle.bus_hub.proofs.Fixing.{range_fixed, range_there}
use Rattle.duo_run.specs.Pages.{AreInPlace, CanFix, IsInPlace, application_pages, first_flash_page, first_load, page_start, pages_touched, probe_in, with_segment}

-- the number of the page of a load address in its space
abbrev page_number : Space → SegmentNote → ℕ
page_number space note = (note.load - start_of space) / 65536

-- the page begins at the address of its number
start_is : (size offset : ℕ) (space : Space) (note : SegmentNote)
    → IsInPlace size offset space note
    → page_start note.load ≡ address_of space (page_number space note)
start_is size offset Data note is = let f = is.from in let t = is.to in omega arith
start_is size offset Code note is = let f = is.from in let t = is.to in omega arith

-- the pages that the segment touches are pages of the space
number_small : (size offset : ℕ) (space : Space) (note : SegmentNote)
    → IsInPlace size offset space note → page_number space note < pages_in space
number_small size offset Data note is =
    let f = is.from in let t = is.to in let l = is.long in omega arith
number_small size offset Code note is =
    let f = is.from in let t = is.to in let l = is.long in omega arith

touched_within : (size offset : ℕ) (space : Space) (note : SegmentNote)
    → IsInPlace size offset space note
    → page_number space note + pages_touched note ≤ pages_in space
touched_within size offset Data note is =
    let f = is.from in let t = is.to in let l = is.long in omega arith
touched_within size offset Code note is =
    let f = is.from in let t = is.to in let l = is.long in omega arith

-- they are free on the empty map
free_first : (size offset : ℕ) (space : Space) (note : SegmentNote)
    → IsInPlace size offset space note
    → IsFreeRun empty (page_start note.load) (pages_touched note)
free_first size offset space note is =
    subst (λ (at : ℕ). IsFreeRun empty at (pages_touched note))
    (sym (start_is size offset space note is))
    (empty_is_free space (page_number space note) (pages_touched note)
    (number_small size offset space note is) (touched_within size offset space note is))

-- the pages of a segment are in the flash, and few
can_fix : (offset : ℕ) (m : Map) (space : Space) (note : SegmentNote) → offset % 65536 ≡ 0
    → IsInPlace (2 ^ 24) offset space note
    → IsFreeRun m (page_start note.load) (pages_touched note) → CanFix offset m note
can_fix offset m Data note aligned is free =
    let f = is.from in
    let t = is.to in
    let s = is.stands in
    let i = is.inside in
    record {
      free = free;
      flash = omega arith;
      few = omega arith;
      place = omega arith;
      end = omega arith;
    }
can_fix offset m Code note aligned is free =
    let f = is.from in
    let t = is.to in
    let s = is.stands in
    let i = is.inside in
    record {
      free = free;
      flash = omega arith;
      few = omega arith;
      place = omega arith;
      end = omega arith;
    }

can_first : (offset : ℕ) (notes : List SegmentNote) (o : Option SegmentNote)
    → AreInPlace (2 ^ 24) offset notes → mapped_in Data notes ≡ o
    → IfSome o (CanFix offset empty)
can_first offset notes None are e = tt
can_first offset notes (Some note) are e =
    let is = are.placed Data note e in
    can_fix offset empty Data note are.aligned is (free_first (2 ^ 24) offset Data note is)

pub data_can : (offset : ℕ) (notes : List SegmentNote) → AreInPlace (2 ^ 24) offset notes
    → IfSome (mapped_in Data notes) (CanFix offset empty)
data_can offset notes are = can_first offset notes (mapped_in Data notes) are refl

-- what is fixed in the data space leaves the code space free
other_free : (m : Map) (at first : ℕ) (run : List PageUse) (page n : ℕ)
    → place_of at ≡ Some (place Data first) → AreFree (uses_in m Code) page n
    → AreFree (uses_in (with_run_at m (place_of at) run) Code) page n
other_free m at first run page n e free =
    subst (λ (q : Option Place). AreFree (uses_in (with_run_at m q run) Code) page n) (sym e) free

place_is : (size offset : ℕ) (note : SegmentNote) → IsInPlace size offset Data note
    → place_of (page_start note.load) ≡ Some (place Data (page_number Data note))
place_is size offset note is =
    ap (λ (at : ℕ). place_of at) (start_is size offset Data note is)
    ∙ place_of_address Data (page_number Data note) (number_small size offset Data note is)

free_code : (size offset : ℕ) (note : SegmentNote) → IsInPlace size offset Code note
    → AreFree (uses_in empty Code) (page_number Code note) (pages_touched note)
free_code size offset note is =
    let n = page_number Code note in
    subst (λ (p : Option Place). AreFreeFrom empty p (pages_touched note))
    (place_of_address Code n (number_small size offset Code note is))
    (empty_is_free Code n (pages_touched note) (number_small size offset Code note is)
    (touched_within size offset Code note is)).free

-- so the pages of a segment of the code space are free behind it
free_behind : (size offset : ℕ) (first code : SegmentNote) → IsInPlace size offset Data first
    → IsInPlace size offset Code code
    → IsFreeRun (with_segment offset (Some first) empty) (page_start code.load)
    (pages_touched code)
free_behind size offset first code is at =
    let n = page_number Code code in
    subst (λ (from : ℕ). IsFreeRun (with_segment offset (Some first) empty) from
    (pages_touched code)) (sym (start_is size offset Code code at)) (record {
      page_start = page_start_of Code n;
      free = subst (λ (p : Option Place). AreFreeFrom (with_segment offset (Some first) empty) p
          (pages_touched code)) (sym (place_of_address Code n (number_small size offset Code code at)))
          (other_free empty (page_start first.load) (page_number Data first)
          (fixed_run (first_flash_page offset first) (pages_touched first)) n (pages_touched code)
          (place_is size offset first is) (free_code size offset code at));
    })

can_second : (offset : ℕ) (notes : List SegmentNote) (o c : Option SegmentNote)
    → AreInPlace (2 ^ 24) offset notes → mapped_in Data notes ≡ o → mapped_in Code notes ≡ c
    → IfSome c (CanFix offset (with_segment offset o empty))
can_second offset notes o None are e f = tt
can_second offset notes None (Some code) are e f =
    let is = are.placed Code code f in
    can_fix offset empty Code code are.aligned is (free_first (2 ^ 24) offset Code code is)
can_second offset notes (Some first) (Some code) are e f =
    let is = are.placed Code code f in
    can_fix offset (with_segment offset (Some first) empty) Code code are.aligned is
    (free_behind (2 ^ 24) offset first code (are.placed Data first e) is)

pub code_can : (offset : ℕ) (notes : List SegmentNote) → AreInPlace (2 ^ 24) offset notes
    → IfSome (mapped_in Code notes)
    (CanFix offset (with_segment offset (mapped_in Data notes) empty))
code_can offset notes are =
    can_second offset notes (mapped_in Data notes) (mapped_in Code notes) are refl refl

-- ---- where the segments of an image stand

record IsLoaded (from to load len place : ℕ) : Type 0 where
  begins : from ≤ load
  ends : load + len ≤ to
  some : 0 < len
  stands : load % 65536 ≡ place % 65536

loaded_data : (load len place : ℕ) → may_load load len place ≡ true
    → (nat_lt 0 len && is_data load) ≡ true → IsLoaded 0x3F400000 0x3F800000 load len place
unfolding may_load is_data is_code
loaded_data load len place may is = record {
  begins = grind (arith, nat_tests);
  ends = grind (arith, nat_tests);
  some = grind (arith, nat_tests);
  stands = grind (arith, nat_tests);
}

loaded_code : (load len place : ℕ) → may_load load len place ≡ true
    → (nat_lt 0 len && is_code load) ≡ true → IsLoaded 0x400D0000 0x40400000 load len place
unfolding may_load is_data is_code
loaded_code load len place may is = record {
  begins = grind (arith, nat_tests);
  ends = grind (arith, nat_tests);
  some = grind (arith, nat_tests);
  stands = grind (arith, nat_tests);
}

-- what is told of a segment that stands here
abbrev note_of : ℕ → Segment → SegmentNote
note_of at s = record { load = load_of s; length = length s.content; place = at + 8 }

some_is : {A : Type 0} {x y : A} → Some x ≡ Some y → x ≡ y
some_is e = cc e

none_is : {A : Type 0} {x : A} → None ≡ Some x → ⊥
none_is e = cc e

-- a mapped segment that stands here is in place
first_in_place : (size offset : ℕ) (space : Space) (at : ℕ) (s : Segment) → IsSegment at s
    → offset + (at + 8 + length s.content) ≤ size
    → is_mapped space (note_of at s) ≡ true → IsInPlace size offset space (note_of at s)
first_in_place size offset Data at s is small e =
    let l = loaded_data (load_of s) (length s.content) (at + 8) is.space e in
    let b = l.begins in
    let t = l.ends in
    let m = l.some in
    let w = is.words in
    record {
      from = b;
      to = omega arith;
      long = omega arith;
      stands = l.stands;
      inside = omega arith;
    }
first_in_place size offset Code at s is small e =
    let l = loaded_code (load_of s) (length s.content) (at + 8) is.space e in
    let b = l.begins in
    let t = l.ends in
    let m = l.some in
    let w = is.words in
    record {
      from = b;
      to = omega arith;
      long = omega arith;
      stands = l.stands;
      inside = omega arith;
    }

-- of the last one that is mapped
last_in_place : (size offset : ℕ) (space : Space) (at : ℕ) (s : Segment) (b : Bool)
    (o : Option SegmentNote) (note : SegmentNote) → IsSegment at s
    → offset + (at + 8 + length s.content) ≤ size → is_mapped space (note_of at s) ≡ b
    → ((later : SegmentNote) → o ≡ Some later → IsInPlace size offset space later)
    → later o (if b then Some (note_of at s) else None) ≡ Some note
    → IsInPlace size offset space note
last_in_place size offset space at s b (Some n) note is small m others e = others note e
last_in_place size offset space at s true None note is small m others e =
    subst (λ (z : SegmentNote). IsInPlace size offset space z) (some_is e)
    (first_in_place size offset space at s is small m)
last_in_place size offset space at s false None note is small m others e = absurd (none_is e)

segments_in_place : (size offset : ℕ) (space : Space) (at : ℕ) (ss : List Segment)
    (note : SegmentNote) → AreSegments at ss → offset + (at + length (text ss)) ≤ size
    → mapped_in space (notes_from at ss) ≡ Some note → IsInPlace size offset space note
segments_in_place size offset space at [] note are small e = absurd (none_is e)
segments_in_place size offset space at (s ∷ ss) note are small e =
    let c = length-append (s.head ++ s.content) (text ss) in
    let h = length-append s.head s.content in
    let w = are.0.head in
    let all : offset + (at + length (s.head ++ s.content ++ text ss)) ≤ size = small in
    last_in_place size offset space at s (is_mapped space (note_of at s))
    (mapped_in space (notes_from (at + 8 + length s.content) ss)) note are.0 (omega arith) refl
    (λ later f. segments_in_place size offset space (at + 8 + length s.content) ss later are.1
    (omega arith) f) e

-- the segments of an image end in it
ends : (size offset : ℕ) (image : List ℕ) (p : Parts) → length p.header ≡ 24
    → image ≡ summed p ++ p.digest → offset + length image ≤ size
    → offset + (24 + length (text p.segments)) ≤ size
ends size offset image p head is small =
    let a = length-append (summed p) p.digest in
    let b = length-append (p.header ++ text p.segments ++ p.padding) (p.checksum ∷ []) in
    let c = length-append (p.header ++ text p.segments) p.padding in
    let f = length-append p.header (text p.segments) in
    let d : length image ≡ length (summed p ++ p.digest) = ap (λ (z : List ℕ). length z) is in
    omega arith

-- so it is of a whole image that is told
pub image_in_place : (size offset limit : ℕ) (image : List ℕ) (info : ImageInfo)
    → offset % 65536 ≡ 0 → offset + length image ≤ size → Whole image limit → IsInfo image info
    → AreInPlace size offset info.segments.items
image_in_place size offset limit image info aligned small whole told = record {
  aligned = aligned;
  placed = λ space note e.
      segments_in_place size offset space 24 whole.parts.segments note whole.image.segments
      (ends size offset image whole.parts whole.image.header whole.text small)
      (ap (λ (notes : List SegmentNote). mapped_in space notes)
      (sym (told.segments whole.parts whole.image whole.text)) ∙ e);
}

-- ---- the driver can look

-- the first bytes of a segment whose pages were just fixed
looks_first : (size offset : ℕ) (m : Map) (space : Space) (note : SegmentNote)
    → offset % 65536 ≡ 0 → IsInPlace size offset space note → IsWhole m
    → IsFreeRun m (page_start note.load) (pages_touched note)
    → IsFixed (with_segment offset (Some note) m) size note.load 4
looks_first size offset m space note aligned is whole free =
    let l = is.long in
    let s = is.stands in
    let i = is.inside in
    range_there m (page_start note.load) (first_flash_page offset note) (pages_touched note) size
    note.load 4 whole free (omega arith) (omega arith) (omega arith)

-- and once the pages of the other segment are fixed
looks_then : (size offset : ℕ) (m : Map) (o : Option SegmentNote) (at : ℕ) → IsWhole m
    → IfSome o (CanFix offset m) → IsFixed m size at 4
    → IsFixed (with_segment offset o m) size at 4
looks_then size offset m None at whole can is = is
looks_then size offset m (Some note) at whole can is =
    range_fixed m (page_start note.load) (first_flash_page offset note) (pages_touched note) size at
    4 whole can.free is

-- a map with a segment is whole
still_whole : (offset : ℕ) (m : Map) (o : Option SegmentNote) → IsWhole m
    → IfSome o (CanFix offset m) → IsWhole (with_segment offset o m)
still_whole offset m None whole can = whole
still_whole offset m (Some note) whole can =
    (keeps m (FixedAt (page_start note.load) (first_flash_page offset note) (pages_touched note))
    whole can.free).good

pub pages_whole : (offset : ℕ) (notes : List SegmentNote) → AreInPlace (2 ^ 24) offset notes
    → IsWhole (application_pages offset notes)
pages_whole offset notes are =
    still_whole offset (with_segment offset (mapped_in Data notes) empty) (mapped_in Code notes)
    (still_whole offset empty (mapped_in Data notes) empty_good (data_can offset notes are))
    (code_can offset notes are)

can_look : (size offset : ℕ) (notes : List SegmentNote) (o c : Option SegmentNote)
    → AreInPlace size offset notes → AreInPlace (2 ^ 24) offset notes
    → mapped_in Data notes ≡ o → mapped_in Code notes ≡ c
    → IfSome (first_load o c) (λ at.
    IsFixed (with_segment offset c (with_segment offset o empty)) size at 4)
can_look size offset notes None None are in_all e f = tt
can_look size offset notes None (Some code) are in_all e f =
    let is = are.placed Code code f in
    looks_first size offset empty Code code are.aligned is empty_good
    (free_first size offset Code code is)
can_look size offset notes (Some first) c are in_all e f =
    let is = are.placed Data first e in
    let free = free_first size offset Data first is in
    looks_then size offset (with_segment offset (Some first) empty) c first.load
    (keeps empty (FixedAt (page_start first.load) (first_flash_page offset first)
    (pages_touched first)) empty_good free).good
    (can_second offset notes (Some first) c in_all e f)
    (looks_first size offset empty Data first are.aligned is empty_good free)

-- the driver's probe lies in pages that were fixed, and in the flash
pub probe_is_fixed : (size offset : ℕ) (notes : List SegmentNote) → AreInPlace size offset notes
    → AreInPlace (2 ^ 24) offset notes
    → IfSome (probe_in notes) (λ at. IsFixed (application_pages offset notes) size at 4)
probe_is_fixed size offset notes are in_all =
    can_look size offset notes (mapped_in Data notes) (mapped_in Code notes) are in_all refl refl
