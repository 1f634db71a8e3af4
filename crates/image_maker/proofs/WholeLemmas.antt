-- The image that is made is whole.
use Rattle.std.proofs.Common.{◌≡◌, ◌≢◌, ℕ, ◌+◌, ◌-◌, ◌%◌, ◌^◌, ◌<◌, ◌≤◌, List, [], ◌∷◌, ◌++◌, length, drop, Option, Some, None, Result, Ok, Err, Bool, true, false, refl, sym, ap, subst, ◌∙◌, arith}
use Rattle.std.specs.Prelude.{replicate, not, nat_lt, nat_le, min, ◌==◌, ◌&&◌, ◌||◌, slice_index, if◌then◌else◌, Vec}
use Rattle.std.specs.declared.alloc.Global.{Global}
use Rattle.std.specs.Option.{option_or}
use Rattle.std.proofs.lemmas.Bool.Decides.{nat_tests}
use Rattle.std.proofs.lemmas.List.{append-nil, drop_at, length-append, length-map, length-replicate}
use Rattle.byteorder.specs.Endian.{little_bytes, little_number}
use Rattle.byteorder.specs.Numbers.{length-bytes_low_first, little_number-reads_back}
use Rattle.sha2.specs.Sha256.{sha256}
use Rattle.sha2.proofs.Facts256.{length-sha256}
use Rattle.image_layout.specs.Footer.{footer_end}
use Rattle.image_layout.specs.Header.{header_bytes}
use Rattle.image_layout.specs.Space.{is_data, is_code, may_load}
use Rattle.image_layout.specs.Segment.{IsSegment, AreSegments, head_bytes, text}
use Rattle.image_layout.specs.Whole.{Parts, IsImage, summed, xor_all}
use Rattle.image_maker.specs.declared.refusal.MakeNo.{MakeNo}
use Rattle.image_maker.specs.declared.refusal.MakeNo.TheVariants.{OddLength, OddAddress, SpaceEnd, Overlap, NoSegments, TooManySegments, TooLong, Memory}
use Rattle.image_maker.specs.declared.part.PartLine.{PartLine}
use Rattle.image_maker.specs.Plan.{Planned, PlannedPart}
use Rattle.image_maker.specs.Placing.{Part, Padding, Given, fill, gap, given, is_mapped, joined, padding_of, placed, segment_of, segments_of, set_down, text_from, data_from}
use Rattle.image_maker.specs.Refused.{leaves_space, length_of, make_fault, overlap_fault, part_fault, parts_fault, size_fault}
use Rattle.image_maker.specs.Image.{IsImageOrMemory, IsMade, image_of, unless, body_of, bytes_of, header_of_plan, with_footer, with_digest}
use Rattle.image_maker.specs.Parts.{all_parts}
use Rattle.image_maker.proofs.PlacingLemmas.{length-head, length-given, length-padding}

-- ---- the header

-- it has 24 bytes
pub length-header : (plan : Planned) (n : ℕ) → length (header_bytes (header_of_plan plan n)) ≡ 24
unfolding header_bytes header_of_plan
length-header plan n = refl

header_magic : (plan : Planned) (n : ℕ) → slice_index (header_bytes (header_of_plan plan n)) 0 ≡ 0xE9
unfolding header_bytes header_of_plan
header_magic plan n = refl

header_count : (plan : Planned) (n : ℕ) → slice_index (header_bytes (header_of_plan plan n)) 1 ≡ n
unfolding header_bytes header_of_plan
header_count plan n = refl

header_chip : (plan : Planned) (n : ℕ) → little_number 2 (drop 12 (header_bytes (header_of_plan plan n))) ≡ 0
unfolding header_bytes header_of_plan
header_chip plan n = refl

header_flag : (plan : Planned) (n : ℕ) → slice_index (header_bytes (header_of_plan plan n)) 23 ≡ (if plan.hash then 1 else 0)
unfolding header_bytes header_of_plan
header_flag plan n = refl

-- ---- what no fault means

-- neither of two has a fault
none_both : (a b : Option MakeNo) → option_or a b ≡ None → (a ≡ None) × (b ≡ None)
none_both None b is = (refl, is)
none_both (Some why) b is = absurd (cc)

-- a test that refuses did not hold
passed : (test : Bool) (why : MakeNo) (rest : Option MakeNo) → (if test then Some why else rest) ≡ None
    → (test ≡ false) × (rest ≡ None)
passed true why rest is = absurd (cc)
passed false why rest is = (refl, is)

-- a part with no fault
record IsSound (load len : ℕ) : Type 0 where
  words : len % 4 ≡ 0
  even : is_mapped load len ≡ true → load % 4 ≡ 0
  inside : leaves_space load len ≡ false

-- it is no refusal
sound : (number load len : ℕ) → part_fault number load len ≡ None → IsSound load len
unfolding part_fault
sound number load len is =
    let ends : Option MakeNo = if leaves_space load len then Some (SpaceEnd number) else None in
    let odd : Bool = is_mapped load len && not (load % 4 == 0) in
    let one = passed (not (len % 4 == 0)) (OddLength number) (if odd then Some (OddAddress number) else ends) is in
    let two = passed odd (OddAddress number) ends one.1 in
    let three = passed (leaves_space load len) (SpaceEnd number) None two.1 in
    record {
      words = let test : not (len % 4 == 0) ≡ false = one.0 in grind (arith, nat_tests, test);
      even = λ mapped. by (is_mapped load len) (load % 4 == 0) refl mapped two.0;
      inside = three.0;
    }
  where
    by : (mapped test : Bool) → (load % 4 == 0) ≡ test → mapped ≡ true → (mapped && not test) ≡ false → load % 4 ≡ 0
    by true true told is test = grind (arith, nat_tests, told)
    by true false told is test = absurd (cc)
    by false test told is _ = absurd (cc)

-- ---- a segment that may stand at its place

-- the rule on spaces, by its tests
rule : (empty in_data in_code data_ends code_ends same : Bool)
    → (not empty && (if in_data then not data_ends else (if in_code then not code_ends else false))) ≡ false
    → ((not empty && (in_data || in_code)) ≡ true → same ≡ true)
    → (if empty then true else (if in_data then data_ends && same else (if in_code then code_ends && same else true))) ≡ true
rule true in_data in_code data_ends code_ends same inside page = refl
rule false true in_code true code_ends same inside page = page refl
rule false true in_code false code_ends same inside page = absurd (cc)
rule false false true data_ends true same inside page = page refl
rule false false true data_ends false same inside page = absurd (cc)
rule false false false data_ends code_ends same inside page = refl

-- a part with no fault may stand where its page is that of its load address
well_placed : (load len place : ℕ) → leaves_space load len ≡ false
    → (is_mapped load len ≡ true → load % 65536 ≡ place % 65536) → may_load load len place ≡ true
unfolding may_load leaves_space is_mapped
well_placed load len place inside page =
    let data_ends : nat_lt 0x3F800000 (load + len) ≡ not (nat_le (load + len) 0x3F800000) = grind (arith, nat_tests) in
    let code_ends : nat_lt 0x40400000 (load + len) ≡ not (nat_le (load + len) 0x40400000) = grind (arith, nat_tests) in
    rule (len == 0) (is_data load) (is_code load) (nat_le (load + len) 0x3F800000) (nat_le (load + len) 0x40400000)
    (load % 65536 == place % 65536) (rw (data_ends, code_ends) at inside)
    (λ mapped. let same = page mapped in grind (arith, nat_tests, same))

-- the head of a segment is read back
head_load : (load len : ℕ) → load < 2 ^ 32 → little_number 4 (head_bytes (record { load = load; length = len })) ≡ load
unfolding head_bytes
head_load load len small = little_number-reads_back 4 load (little_bytes 4 len) small

head_length : (load len : ℕ) → len < 2 ^ 32 → little_number 4 (drop 4 (head_bytes (record { load = load; length = len }))) ≡ len
unfolding head_bytes
head_length load len small =
    let first = little_bytes 4 load in
    let second = little_bytes 4 len in
    ap (little_number 4) (drop_at first second 4 (length-bytes_low_first 0 4 load) ∙ sym (append-nil second))
    ∙ little_number-reads_back 4 len [] small

-- such a segment may stand there
is_segment : (at load : ℕ) (content : List ℕ) → load < 2 ^ 32 → length content < 2 ^ 32 → length content % 4 ≡ 0
    → may_load load (length content) (at + 8) ≡ true
    → IsSegment at (record { head = head_bytes (record { load = load; length = length content }); content = content })
is_segment at load content small short words space = record {
  head = length-head (record { load = load; length = length content });
  counted = head_length load (length content) short;
  words = words;
  space = ap (λ n. may_load n (length content) (at + 8)) (head_load load (length content) small) ∙ space;
}

-- padding may stand anywhere
padding_loads : (len place : ℕ) → may_load 0 len place ≡ true
unfolding may_load is_data is_code
padding_loads len place = by (len == 0)
  where
    by : (empty : Bool) → (if empty then true else true) ≡ true
    by true = refl
    by false = refl

is_padding : (at n : ℕ) → n < 2 ^ 32 → n % 4 ≡ 0 → IsSegment at (segment_of (Padding n))
is_padding at n short words =
    let zeros : List ℕ = replicate n 0 in
    let long : length zeros ≡ n = length-replicate {A = ℕ} n 0 in
    record {
      head = length-head (record { load = 0; length = n });
      counted = head_length 0 n short ∙ sym long;
      words = ap (λ m. m % 4) long ∙ words;
      space = ap (λ m. may_load m (length zeros) (at + 8)) (head_load 0 n (omega arith))
          ∙ padding_loads (length zeros) (at + 8);
    }

-- ---- after its padding the page of a part is that of its load address

-- without a gap it is so
no_gap : (at load : ℕ) → gap at load ≡ 0 → load % 65536 ≡ (at + 8) % 65536
no_gap at load none = omega (arith, none)

-- and with the padding that fills the gap
fill_page : (at load : ℕ) → at % 4 ≡ 0 → load % 4 ≡ 0 → gap at load ≢ 0
    → (load % 65536 ≡ (at + 8 + fill (gap at load) + 8) % 65536) × (fill (gap at load) % 4 ≡ 0) × (fill (gap at load) < 65536)
fill_page at load even load_even some = by (gap at load == 4) refl
  where
    g : ℕ
    g = gap at load

    by : (test : Bool) → (gap at load == 4) ≡ test
        → (load % 65536 ≡ (at + 8 + (if test then 65532 else gap at load - 8) + 8) % 65536)
        × ((if test then 65532 else gap at load - 8) % 4 ≡ 0) × ((if test then 65532 else gap at load - 8) < 65536)
    by true is = let four : gap at load ≡ 4 = grind (arith, nat_tests, is) in (omega (arith, four), refl, omega arith)
    by false is =
        let other : gap at load ≢ 4 = grind (arith, nat_tests, is) in
        let words : gap at load % 4 ≡ 0 = omega (arith, even, load_even) in
        let eight : 8 ≤ gap at load = omega (arith, words, other, some) in
        (omega (arith, eight), omega (arith, words, eight), omega arith)

-- ---- the segments

-- what a part may be: its load address has 32 bits
abbrev pub AreSmall : List Part → Type 0
AreSmall [] = Unit {0}
AreSmall (p ∷ ps) = (p.load < 2 ^ 32) × AreSmall ps

-- parts with no fault are segments that may stand where they are placed
placed_are : (number : ℕ) (ps : List Part) (at : ℕ) → at % 4 ≡ 0 → AreSmall ps → parts_fault number ps ≡ None
    → length (text_from ps at) < 2 ^ 32 → AreSegments at (segments_of (placed ps at))
unfolding padding_of
placed_are number [] at even small none short = tt
placed_are number (p ∷ ps) at even small none short =
    let both = none_both (part_fault number p.load (length p.content)) (parts_fault (number + 1) ps) none in
    let is = sound number p.load (length p.content) both.0 in
    by is (is_mapped p.load (length p.content)) refl (gap at p.load == 0) refl short
    (λ n next_even next_short. placed_are (number + 1) ps n next_even small.1 both.1 next_short)
  where
    by : IsSound p.load (length p.content) → (mapped : Bool) → is_mapped p.load (length p.content) ≡ mapped
        → (test : Bool) → (gap at p.load == 0) ≡ test
        → length (text (segments_of (set_down (if mapped then (if test then None else Some (fill (gap at p.load))) else None) p (placed ps) at))) < 2 ^ 32
        → ((n : ℕ) → n % 4 ≡ 0 → length (text_from ps n) < 2 ^ 32 → AreSegments n (segments_of (placed ps n)))
        → AreSegments at (segments_of (set_down (if mapped then (if test then None else Some (fill (gap at p.load))) else None) p (placed ps) at))
    by is false maps test told short rest =
        let next = at + 8 + length p.content in
        let long = length-given p (placed ps next) in
        let page : is_mapped p.load (length p.content) ≡ true → p.load % 65536 ≡ (at + 8) % 65536 = λ mapped. absurd (cc) in (
          is_segment at p.load p.content small.0 (omega (arith, long)) is.words
              (well_placed p.load (length p.content) (at + 8) is.inside page),
          rest next (omega (arith, is.words)) (omega (arith, long)),
        )
    by is true maps true told short rest =
        let next = at + 8 + length p.content in
        let long = length-given p (placed ps next) in
        let none : gap at p.load ≡ 0 = grind (arith, nat_tests, told) in (
          is_segment at p.load p.content small.0 (omega (arith, long)) is.words
              (well_placed p.load (length p.content) (at + 8) is.inside (λ mapped. no_gap at p.load none)),
          rest next (omega (arith, is.words)) (omega (arith, long)),
        )
    by is true maps false told short rest =
        let n = fill (gap at p.load) in
        let head = at + 8 + n in
        let next = at + 8 + n + 8 + length p.content in
        let long = length-given p (placed ps next) in
        let more = length-padding n (Given p ∷ placed ps next) in
        let some : gap at p.load ≢ 0 = grind (arith, nat_tests, told) in
        let filled = fill_page at p.load even (is.even maps) some in
        let zeros : n ≡ length (segment_of (Padding n)).content = sym (length-replicate {A = ℕ} n 0) in
        let P : ℕ → Type 0 = λ m. AreSegments (at + 8 + m) (segments_of (Given p ∷ placed ps next)) in (
          is_padding at n (omega (arith, filled)) filled.1,
          subst P zeros (
            is_segment head p.load p.content small.0 (omega (arith, long, more)) is.words
                (well_placed p.load (length p.content) (head + 8) is.inside (λ mapped. filled.0)),
            rest next (omega (arith, is.words, filled.1)) (omega (arith, long, more)),
          ),
        )

-- without the padding they are the parts
given-placed : (ps : List Part) (at : ℕ) → given (placed ps at) ≡ ps
given-placed [] at = refl
given-placed (p ∷ ps) at = by (padding_of at p.load (length p.content)) (λ n. given-placed ps n)
  where
    by : (o : Option ℕ) → ((n : ℕ) → given (placed ps n) ≡ ps) → given (set_down o p (placed ps) at) ≡ p ∷ ps
    by None rest = ap (λ (qs : List Part). p ∷ qs) (rest (at + 8 + length p.content))
    by (Some n) rest = ap (λ (qs : List Part). p ∷ qs) (rest (at + 8 + n + 8 + length p.content))

-- there are at least as many as parts
placed_more : (ps : List Part) (at : ℕ) → length ps ≤ length (placed ps at)
placed_more [] at = omega arith
placed_more (p ∷ ps) at = by (padding_of at p.load (length p.content)) (λ n. placed_more ps n)
  where
    by : (o : Option ℕ) → ((n : ℕ) → length ps ≤ length (placed ps n)) → length (p ∷ ps) ≤ length (set_down o p (placed ps) at)
    by None rest = omega (arith, rest (at + 8 + length p.content))
    by (Some n) rest = omega (arith, rest (at + 8 + n + 8 + length p.content))

-- ---- the whole image

-- a size with no fault
sized : (count end : ℕ) (hash : Bool) → size_fault count end hash ≡ None → (count ≤ 16) × (length_of end hash ≤ 16777216)
unfolding size_fault
sized count end hash is =
    let n = min (length_of end hash) (2 ^ 64 - 1) in
    let long : Option MakeNo = if nat_lt 16777216 (length_of end hash) then Some (TooLong n) else None in
    let one = passed (nat_lt 16 count) (TooManySegments count) long is in
    let two = passed (nat_lt 16777216 (length_of end hash)) (TooLong n) None one.1 in
    let few : nat_lt 16 count ≡ false = one.0 in
    let short : nat_lt 16777216 (length_of end hash) ≡ false = two.0 in
    (grind (arith, nat_tests, few), grind (arith, nat_tests, short))

-- parts that make an image
pub record AreFaultless (hash : Bool) (ps : List Part) : Type 0 where
  pub some : 1 ≤ length ps
  pub parts : parts_fault 0 ps ≡ None
  pub count : length (placed ps 24) ≤ 16
  pub fits : length_of (24 + length (text_from ps 24)) hash ≤ 16777216

-- they are no refusal
pub faultless : (hash : Bool) (ps : List Part) → make_fault hash ps ≡ None → AreFaultless hash ps
unfolding make_fault
faultless hash ps is =
    let end = 24 + length (text_from ps 24) in
    let size = size_fault (length (placed ps 24)) end hash in
    let one = passed (length ps == 0) NoSegments (option_or (parts_fault 0 ps) (option_or (overlap_fault 0 ps) size)) is in
    let two = none_both (parts_fault 0 ps) (option_or (overlap_fault 0 ps) size) one.1 in
    let three = none_both (overlap_fault 0 ps) size two.1 in
    let four = sized (length (placed ps 24)) end hash three.1 in
    let test : (length ps == 0) ≡ false = one.0 in
    record {
      some = grind (arith, nat_tests, test);
      parts = two.0;
      count = four.0;
      fits = four.1;
    }

-- the image's parts
abbrev image_parts : Planned → List Part → Parts
image_parts plan ps =
    let body = body_of plan ps in
    let sum = xor_all 0xEF (data_from ps 24) in
    record {
      header = header_bytes (header_of_plan plan (length (placed ps 24)));
      segments = segments_of (placed ps 24);
      padding = replicate (footer_end (length body) - length body - 1) 0;
      checksum = sum;
      digest = if plan.hash then sha256 (with_footer body sum) else [];
    }

-- a body ends with its segments
length-body : (plan : Planned) (ps : List Part) → length (body_of plan ps) ≡ 24 + length (text_from ps 24)
length-body plan ps =
    let n = length (placed ps 24) in
    omega (arith, length-append (header_bytes (header_of_plan plan n)) (text_from ps 24), length-header plan n)

-- the digest is there exactly where the flag says so
digest_is : (hash : Bool) (flag : ℕ) (bytes : List ℕ) → flag ≡ (if hash then 1 else 0)
    → (flag ≡ 0 → (if hash then sha256 bytes else []) ≡ []) × (flag ≡ 1 → (if hash then sha256 bytes else []) ≡ sha256 bytes)
digest_is true flag bytes is = (λ none. absurd (omega (arith, is, none)), λ _. refl)
digest_is false flag bytes is = (λ _. refl, λ one. absurd (omega (arith, is, one)))

-- and it has 32 bytes
length-digest : (hash : Bool) (bytes : List ℕ) → length (if hash then sha256 bytes else []) ≡ (if hash then 32 else 0)
length-digest true bytes = length-sha256 bytes
length-digest false bytes = refl

-- the parts are those of an image
is_image : (plan : Planned) (ps : List Part) → AreSmall ps → AreFaultless plan.hash ps → IsImage (image_parts plan ps)
is_image plan ps small fine =
    let p = image_parts plan ps in
    let n = length (placed ps 24) in
    let body = length-body plan ps in
    let count : length (segments_of (placed ps 24)) ≡ n = length-map (placed ps 24) segment_of in
    let more = placed_more ps 24 in
    let digest = digest_is plan.hash (slice_index p.header 23) (summed p) (header_flag plan n) in
    let long = length-replicate {A = ℕ} (footer_end (length (body_of plan ps)) - length (body_of plan ps) - 1) 0 in
    record {
      header = length-header plan n;
      magic = header_magic plan n;
      count = header_count plan n ∙ sym count;
      some = omega (arith, count, more, fine.some);
      most = omega (arith, count, fine.count);
      chip = header_chip plan n;
      flag = by plan.hash (slice_index p.header 23) (header_flag plan n);
      segments = placed_are 0 ps 24 refl small fine.parts (omega (arith, fine.fits));
      padding = omega (arith, long, body);
      checksum = refl;
      unflagged = digest.0;
      flagged = digest.1;
    }
  where
    by : (hash : Bool) (flag : ℕ) → flag ≡ (if hash then 1 else 0) → flag ≤ 1
    by true flag is = omega (arith, is)
    by false flag is = omega (arith, is)

-- so the image is whole, with the plan's segments
pub made_is : (plan : Planned) (files : List (List ℕ)) → AreSmall (joined plan.parts files)
    → make_fault plan.hash (joined plan.parts files) ≡ None → IsMade plan files (bytes_of plan (joined plan.parts files))
unfolding bytes_of
made_is plan files small none =
    let ps = joined plan.parts files in
    let fine = faultless plan.hash ps none in
    let p = image_parts plan ps in
    let body = length-body plan ps in
    let padding = length-replicate {A = ℕ} (footer_end (length (body_of plan ps)) - length (body_of plan ps) - 1) 0 in
    let one = length-append (body_of plan ps) p.padding in
    let two = length-append (body_of plan ps ++ p.padding) (p.checksum ∷ []) in
    let three = length-append (summed p) p.digest in
    let digest = length-digest plan.hash (summed p) in
    record {
      whole = record {
        parts = p;
        image = is_image plan ps small fine;
        text = refl;
        fits = omega (arith, fine.fits, body, padding, one, two, three, digest);
      };
      placing = placed ps 24;
      segments = refl;
      given = given-placed ps 24;
    }

-- the lines of a plan have load addresses of 32 bits
pub lines_small : (lines : List PartLine) (files : List (Vec ℕ Global)) → AreSmall (all_parts lines files)
lines_small [] files = tt
lines_small (line ∷ lines) [] = tt
lines_small (line ∷ lines) (file ∷ files) = (line.small, lines_small lines files)

-- an image that was put together piece by piece
pub built : (plan : Planned) (ps : List Part) (count sum : ℕ) (hash : Bool) (first second third last : List ℕ)
    → count ≡ length (placed ps 24) → first ≡ header_bytes (header_of_plan plan count)
    → second ≡ first ++ text_from ps (length first) → sum ≡ xor_all 0xEF (data_from ps (length first))
    → third ≡ with_footer second sum → hash ≡ plan.hash → last ≡ with_digest hash third → last ≡ bytes_of plan ps
unfolding bytes_of
built plan ps count sum hash first second third last count_is first_is second_is sum_is third_is hash_is last_is =
    let there : length first ≡ 24 = ap length first_is ∙ length-header plan count in
    let body : second ≡ body_of plan ps =
    second_is ∙ (λ i. (first_is ∙ ap (λ n. header_bytes (header_of_plan plan n)) count_is) i ++ text_from ps (there i)) in
    let summed : sum ≡ xor_all 0xEF (data_from ps 24) = sum_is ∙ ap (λ n. xor_all 0xEF (data_from ps n)) there in
    last_is ∙ (λ i. with_digest (hash_is i) ((third_is ∙ (λ j. with_footer (body j) (summed j))) i))

-- a fault is the answer
pub refused_is : (plan : Planned) (files : List (List ℕ)) (why : MakeNo)
    → make_fault plan.hash (joined plan.parts files) ≡ Some why → IsImageOrMemory (Err why) (image_of plan files)
unfolding image_of
refused_is plan files why is =
    by why _ (sym (ap (λ o. unless o (bytes_of plan (joined plan.parts files))) is))
  where
    by : (why : MakeNo) (meant : Result (List ℕ) MakeNo) → Err why ≡ meant → IsImageOrMemory (Err why) meant
    by NoSegments meant is = is
    by (OddLength n) meant is = is
    by (OddAddress n) meant is = is
    by (SpaceEnd n) meant is = is
    by (Overlap a b) meant is = is
    by (TooManySegments n) meant is = is
    by (TooLong n) meant is = is
    by Memory meant is = tt

-- without a fault the bytes are
pub image_is : (plan : Planned) (files : List (List ℕ)) (bytes : List ℕ)
    → make_fault plan.hash (joined plan.parts files) ≡ None → bytes ≡ bytes_of plan (joined plan.parts files)
    → Ok bytes ≡ image_of plan files
unfolding image_of
image_is plan files bytes none is =
    ap Ok is ∙ sym (ap (λ o. unless o (bytes_of plan (joined plan.parts files))) none)

-- data end at most where an image may
pub end_fits : (hash : Bool) (ps : List Part) (end : ℕ) → make_fault hash ps ≡ None → end ≡ 24 + length (text_from ps 24)
    → end ≤ 16777216
end_fits hash ps end none is = let fits = (faultless hash ps none).fits in omega (arith, fits, is)

-- the fault of a plan's parts
pub same_fault : (plan : Planned) (files : List (List ℕ)) (hash : Bool) (parts : List PlannedPart)
    → hash ≡ plan.hash → parts ≡ plan.parts
    → make_fault plan.hash (joined plan.parts files) ≡ make_fault hash (joined parts files)
same_fault plan files hash parts hash_is parts_are = λ i. make_fault (sym hash_is i) (joined (sym parts_are i) files)
