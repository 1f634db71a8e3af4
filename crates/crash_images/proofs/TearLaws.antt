-- What holds of the flash that a tear number names.
use Rattle.std.specs.Prelude.{◌≡◌, ◌⊎◌, ℕ, ◌+◌, ◌-◌, ◌<◌, ◌≤◌, ◌%◌, List, [], ◌∷◌, ◌++◌, length, take, drop, slice_index, bit_and, bit_or, nat_le, nat_lt, ◌&&◌, if◌then◌else◌, true, false, refl}
use Rattle.std.proofs.Common.{zero, suc, get_or, sym, ◌∙◌, ap, subst, inl, inr, arith, add-zero, zero-add, length-drop, length-append}
use Rattle.std.proofs.lemmas.List.{ext_get_or, length-take, get_or_append_left, get_or-append_right, append_assoc, drop-drop}
use Rattle.std.proofs.Math.Seq.{take-add, take-append_seam, drop-append_seam}
use Rattle.std.proofs.lemmas.Bool.{cases_lt}
use Rattle.std.proofs.lemmas.Nat.{and_assoc, and_comm, and_or_self, or_comm, and_mask, or_of_8}
use Rattle.nor_device.specs.declared.step.Step.{Step}
use Rattle.nor_device.specs.declared.step.Step.TheVariants.{Erase, Program, Block}
use Rattle.nor_device.specs.Flash.{start_of, len_of, end_of, anded, applied, changed_byte, byte_after}
use Rattle.nor_device.specs.Torn.{IsTornProgram, IsTornByte, Torn}
use Rattle.nor_device.proofs.Splice.{length-spliced, spliced_below, spliced_within, spliced_above, part_byte}
use Rattle.nor_device.proofs.FlashLaws.{length-anded, get_or-anded, length_applied, byte_applied, byte_after_outside, byte_after_inside}
use Rattle.nor_device.proofs.TornLaws.{torn_program_made}
use Rattle.crash_images.specs.Tear.{window_mask, other_mask, window_start, window_end, mask_at, with_mask_bits, torn_byte_of, torn_part, torn_by, is_erase, data_byte_of, masked}

-- setting bits keeps the length
pub length_with_mask_bits : (tear i : ℕ) (bytes : List ℕ) → length (with_mask_bits tear i bytes) ≡ length bytes
length_with_mask_bits tear i [] = refl
length_with_mask_bits tear i (byte ∷ bytes) = omega (arith, length_with_mask_bits tear (i + 1) bytes)

-- each byte has the bits of its mask set
pub get_or-with_mask_bits : (tear i : ℕ) (bytes : List ℕ) (k : ℕ) → k < length bytes
    → get_or (with_mask_bits tear i bytes) k 0 ≡ bit_or (get_or bytes k 0) (mask_at tear (i + k))
get_or-with_mask_bits tear i [] k inside = absurd (omega arith)
get_or-with_mask_bits tear i (byte ∷ bytes) zero inside =
    ap (λ (n : ℕ). bit_or byte (mask_at tear n)) (sym (add-zero i))
get_or-with_mask_bits tear i (byte ∷ bytes) (suc k) inside =
    let next : i + 1 + k ≡ i + suc k = omega arith in
    get_or-with_mask_bits tear (i + 1) bytes k (omega arith)
    ∙ ap (λ (n : ℕ). bit_or (get_or bytes k 0) (mask_at tear n)) next

-- a tear keeps the length of what it changes
pub length-torn_part : (step : Step) (tear : ℕ) (part : List ℕ)
    → length (torn_part step tear part) ≡ length part
length-torn_part (Erase sector) tear part = length_with_mask_bits tear 0 part
length-torn_part (Program at page) tear part = length-anded part (with_mask_bits tear 0 page)
length-torn_part (Block block) tear part = length_with_mask_bits tear 0 part

-- and makes of each byte of it the torn byte
pub get_or-torn_part : (step : Step) (tear : ℕ) (part : List ℕ) (k : ℕ) → k < length part
    → k < len_of step → get_or (torn_part step tear part) k 0
    ≡ torn_byte_of (get_or part k 0) (data_byte_of step k) (is_erase step) tear k
get_or-torn_part (Erase sector) tear part k in_part in_range = get_or-with_mask_bits tear 0 part k in_part
    ∙ ap (λ (n : ℕ). bit_or (get_or part k 0) (mask_at tear n)) (zero-add k)
get_or-torn_part (Program at page) tear part k in_part in_range =
    let there : k < length (with_mask_bits tear 0 page) = omega (arith, length_with_mask_bits tear 0 page) in
    get_or-anded part (with_mask_bits tear 0 page) k in_part there
    ∙ ap (λ (x : ℕ). bit_and (get_or part k 0) x)
    (get_or-with_mask_bits tear 0 page k in_range
    ∙ ap (λ (n : ℕ). bit_or (get_or page k 0) (mask_at tear n)) (zero-add k))
get_or-torn_part (Block block) tear part k in_part in_range = get_or-with_mask_bits tear 0 part k in_part
    ∙ ap (λ (n : ℕ). bit_or (get_or part k 0) (mask_at tear n)) (zero-add k)

-- the flash keeps its length
pub length_torn_by : (flash : List ℕ) (step : Step) (tear : ℕ)
    → length (torn_by flash step tear) ≡ length flash
length_torn_by flash step tear =
    length-spliced flash (start_of step) (len_of step) _
    (length-torn_part step tear (take (len_of step) (drop (start_of step) flash)))

-- in the range stands the torn byte
pub torn_by_inside : (flash : List ℕ) (step : Step) (tear i : ℕ) → i < length flash
    → start_of step ≤ i → i < end_of step
    → slice_index (torn_by flash step tear) i
    ≡ torn_byte_of (slice_index flash i) (data_byte_of step (i - start_of step))
    (is_erase step) tear (i - start_of step)
torn_by_inside flash step tear i inside from to =
    let start = start_of step in
    let len = len_of step in
    let part = take len (drop start flash) in
    let same = length-torn_part step tear part in
    let in_part : i - start < length part =
    omega (arith, length-take len (drop start flash), length-drop start flash) in
    let in_range : i - start < len = omega arith in
    spliced_within flash start len (torn_part step tear part) same i from to inside
    ∙ get_or-torn_part step tear part (i - start) in_part in_range
    ∙ ap (λ (b : ℕ). torn_byte_of b (data_byte_of step (i - start)) (is_erase step) tear
    (i - start)) (part_byte flash start len (torn_part step tear part) same i from to)

-- outside it nothing changed
pub torn_by_outside : (flash : List ℕ) (step : Step) (tear i : ℕ) → i < length flash
    → (i < start_of step) ⊎ (end_of step ≤ i)
    → slice_index (torn_by flash step tear) i ≡ slice_index flash i
torn_by_outside flash step tear i inside (inl low) =
    let part = take (len_of step) (drop (start_of step) flash) in
    spliced_below flash (start_of step) (len_of step) (torn_part step tear part)
    (length-torn_part step tear part) i low inside
torn_by_outside flash step tear i inside (inr high) =
    let part = take (len_of step) (drop (start_of step) flash) in
    spliced_above flash (start_of step) (len_of step) (torn_part step tear part)
    (length-torn_part step tear part) i high inside

-- a program that clears fewer bits and is cut short is the program cut short
torn_program_weaker : (data_byte mask old new : ℕ) → IsTornProgram (bit_or data_byte mask) old new
    → IsTornProgram data_byte old new
torn_program_weaker data_byte mask old new torn = record {
  sets_none = torn.sets_none;
  keeps = sym (ap (λ (x : ℕ). bit_and (bit_and new old) x) fewer)
      ∙ sym (and_assoc data_byte (bit_and new old) (bit_or data_byte mask))
      ∙ ap (λ (x : ℕ). bit_and x data_byte) torn.keeps
      ∙ and_assoc data_byte old (bit_or data_byte mask) ∙ ap (λ (x : ℕ). bit_and old x) fewer;
}
  where
    fewer : bit_and (bit_or data_byte mask) data_byte ≡ data_byte
    fewer = ap (λ (x : ℕ). bit_and x data_byte) (or_comm data_byte mask)
        ∙ and_or_self data_byte mask

-- a mask is a byte
mask_small : (tear i : ℕ) → mask_at tear i < 256
mask_small tear i =
    elim (nat_le (window_start tear) i && nat_lt i (window_end tear))
    as (λ v. (if v then window_mask tear else other_mask tear) < 256)
    [ true ↦ omega arith | false ↦ omega arith ]

-- the torn byte is one of those that a torn step may leave
torn_byte_of_torn : (step : Step) (tear k old : ℕ)
    → IsTornByte step k old (torn_byte_of old (data_byte_of step k) (is_erase step) tear k)
torn_byte_of_torn (Erase sector) tear k old = λ small. or_of_8 old (mask_at tear k) small (mask_small tear k)
torn_byte_of_torn (Program at page) tear k old =
    torn_program_weaker (slice_index page k) (mask_at tear k) old _
    (torn_program_made (bit_or (slice_index page k) (mask_at tear k)) old)
torn_byte_of_torn (Block block) tear k old = λ small. or_of_8 old (mask_at tear k) small (mask_small tear k)

-- the flash that a tear number names is a torn one
pub tear_is_torn : (flash : List ℕ) (step : Step) (tear : ℕ)
    → Torn flash step (torn_by flash step tear)
tear_is_torn flash step tear = record {
  same_length = length_torn_by flash step tear;
  byte = λ i inside. record {
    outside = λ out. torn_by_outside flash step tear i inside out;
    inside = λ from to.
        subst (λ (b : ℕ). IsTornByte step (i - start_of step) (slice_index flash i) b)
        (sym (torn_by_inside flash step tear i inside from to))
        (torn_byte_of_torn step tear (i - start_of step) (slice_index flash i));
  };
}

-- a program with the bits of the masks set in its data leaves what the tear number names
pub applied_masked : (flash : List ℕ) (at tear : ℕ) (page : List ℕ)
    → applied flash (Program at (with_mask_bits tear 0 page)) ≡ torn_by flash (Program at page) tear
applied_masked flash at tear page =
    ap (λ (n : ℕ). take at flash ++ anded (take n (drop at flash)) (with_mask_bits tear 0 page)
    ++ drop (at + n) flash) (length_with_mask_bits tear 0 page)

-- torn with the bits of the masks set in its data is torn
pub torn_masked : (flash left : List ℕ) (at tear : ℕ) (page : List ℕ)
    → Torn flash (Program at (with_mask_bits tear 0 page)) left → Torn flash (Program at page) left
torn_masked flash left at tear page torn =
    let len = length_with_mask_bits tear 0 page in
    record {
      same_length = torn.same_length;
      byte = λ i inside.
          let b = torn.byte i inside in
          record {
            outside = λ out. b.outside (subst (λ (n : ℕ). (i < at) ⊎ (at + n ≤ i)) (sym len) out);
            inside = λ from to.
                let there : i - at < length page = omega arith in
                let long : i < at + length (with_mask_bits tear 0 page) = omega (arith, len) in
                let d : slice_index (with_mask_bits tear 0 page) (i - at)
                ≡ bit_or (slice_index page (i - at)) (mask_at tear (0 + (i - at))) =
                get_or-with_mask_bits tear 0 page (i - at) there in
                torn_program_weaker (slice_index page (i - at)) (mask_at tear (0 + (i - at)))
                (slice_index flash i) (slice_index left i)
                (subst (λ (x : ℕ). IsTornProgram x (slice_index flash i) (slice_index left i)) d
                (b.inside from long));
          };
    }

-- a program of nothing changes nothing
pub applied_nothing : (flash : List ℕ) (at : ℕ) → applied flash (Program at []) ≡ flash
applied_nothing flash at =
    ext_get_or 0 (applied flash (Program at [])) flash (length_applied flash (Program at []))
    (λ i inside.
    let there : i < length flash = omega (arith, inside, length_applied flash (Program at [])) in
    let out : (i < at) ⊎ (at + 0 ≤ i) =
    elim (cases_lt i at) [ inl low ↦ inl low | inr high ↦ inr (omega arith) ] in
    byte_applied flash (Program at []) i there
    ∙ byte_after_outside (Program at []) i (slice_index flash i) out)

-- a byte that two programs side by side change, or leave
byte_after_both : (at : ℕ) (front back : List ℕ) (i byte : ℕ)
    → byte_after (Program (at + length front) back) i (byte_after (Program at front) i byte)
    ≡ byte_after (Program at (front ++ back)) i byte
byte_after_both at front back i byte =
    let first = Program at front in
    let second = Program (at + length front) back in
    let both = Program at (front ++ back) in
    let long = length-append front back in
    elim (cases_lt i at) [
      | inl low ↦ byte_after_outside second i (byte_after first i byte) (inl (omega arith))
          ∙ byte_after_outside first i byte (inl low)
          ∙ sym (byte_after_outside both i byte (inl low))
      | inr from ↦ elim (cases_lt i (at + length front)) [
        | inl to ↦
            let here : i - at < length front = omega arith in
            let end : i < at + length (front ++ back) = omega (arith, long) in
            byte_after_outside second i (byte_after first i byte) (inl to)
            ∙ byte_after_inside first i byte from to
            ∙ ap (λ (x : ℕ). bit_and byte x) (sym (get_or_append_left front back 0 (i - at) here))
            ∙ sym (byte_after_inside both i byte from end)
        | inr mid ↦ elim (cases_lt i (at + length front + length back)) [
          | inl last ↦
              let end : i < at + length (front ++ back) = omega (arith, long) in
              let past : length front ≤ i - at = omega arith in
              let same : i - at - length front ≡ i - (at + length front) = omega arith in
              ap (byte_after second i) (byte_after_outside first i byte (inr mid))
              ∙ byte_after_inside second i byte mid last
              ∙ ap (λ (x : ℕ). bit_and byte x)
              (sym (get_or-append_right front back (length front) (i - at) 0 refl past
              ∙ ap (λ (k : ℕ). get_or back k 0) same))
              ∙ sym (byte_after_inside both i byte from end)
          | inr out ↦
              let end : at + length (front ++ back) ≤ i = omega (arith, long) in
              ap (byte_after second i) (byte_after_outside first i byte (inr mid))
              ∙ byte_after_outside second i byte (inr out)
              ∙ sym (byte_after_outside both i byte (inr end))
        ]
      ]
    ]

-- two programs side by side are one
pub applied_more : (flash : List ℕ) (at : ℕ) (front back : List ℕ)
    → applied (applied flash (Program at front)) (Program (at + length front) back)
    ≡ applied flash (Program at (front ++ back))
applied_more flash at front back =
    ext_get_or 0 (applied mid second) (applied flash both)
    (length_applied mid second ∙ length_applied flash first ∙ sym (length_applied flash both))
    (λ i inside.
    let in_mid : i < length mid = omega (arith, inside, length_applied mid second) in
    let in_flash : i < length flash = omega (arith, in_mid, length_applied flash first) in
    byte_applied mid second i in_mid
    ∙ ap (byte_after second i) (byte_applied flash first i in_flash)
    ∙ byte_after_both at front back i (slice_index flash i)
    ∙ sym (byte_applied flash both i in_flash))
  where
    first : Step
    first = Program at front

    second : Step
    second = Program (at + length front) back

    both : Step
    both = Program at (front ++ back)

    mid : List ℕ
    mid = applied flash first

-- a byte ANDed into one that was erased stands there
and_erased : (byte : ℕ) → byte < 256 → bit_and 255 byte ≡ byte
and_erased byte small = and_comm 255 byte ∙ and_mask byte 8 ∙ low
  where
    low : byte % 256 ≡ byte
    low = omega arith

-- bytes that are programmed over an erased range stand there
pub applied_erased : (flash : List ℕ) (erase : Step) → ((k b : ℕ) → changed_byte erase k b ≡ 255)
    → (bytes : List ℕ) → length bytes ≡ len_of erase → end_of erase ≤ length flash
    → ((k : ℕ) → get_or bytes k 0 < 256)
    → applied (applied flash erase) (Program (start_of erase) bytes) ≡ take (start_of erase) flash
    ++ bytes ++ drop (end_of erase) flash
applied_erased flash erase all_ones bytes long inside small =
    ext_get_or 0 (applied mid put) whole
    (length_applied mid put ∙ length_applied flash erase
    ∙ sym (length-spliced flash start len bytes same)) (λ i within.
    let in_mid : i < length mid = omega (arith, within, length_applied mid put) in
    let in_flash : i < length flash = omega (arith, in_mid, length_applied flash erase) in
    byte_applied mid put i in_mid ∙ ap (byte_after put i) (byte_applied flash erase i in_flash)
    ∙ each i in_flash)
  where
    start : ℕ
    start = start_of erase

    len : ℕ
    len = len_of erase

    put : Step
    put = Program (start_of erase) bytes

    mid : List ℕ
    mid = applied flash erase

    whole : List ℕ
    whole = take (start_of erase) flash ++ bytes ++ drop (end_of erase) flash

    same : length bytes ≡ length (take (len_of erase) (drop (start_of erase) flash))
    same = omega (
      arith,
      long,
      inside,
      length-take (len_of erase) (drop (start_of erase) flash),
      length-drop (start_of erase) flash,
    )

    each : (i : ℕ) → i < length flash
        → byte_after put i (byte_after erase i (slice_index flash i)) ≡ slice_index whole i
    each i in_flash = elim (cases_lt i (start_of erase)) [
      | inl low ↦
          byte_after_outside put i (byte_after erase i (slice_index flash i)) (inl low)
          ∙ byte_after_outside erase i (slice_index flash i) (inl low)
          ∙ sym (spliced_below flash start len bytes same i low in_flash)
      | inr from ↦ elim (cases_lt i (end_of erase)) [
        | inl to ↦
            let end : i < start_of erase + length bytes = omega (arith, long) in
            ap (byte_after put i)
            (byte_after_inside erase i (slice_index flash i) from to
            ∙ all_ones (i - start_of erase) (slice_index flash i))
            ∙ byte_after_inside put i 255 from end
            ∙ and_erased (get_or bytes (i - start_of erase) 0) (small (i - start_of erase))
            ∙ sym (spliced_within flash start len bytes same i from to in_flash)
        | inr past ↦
            let end : start_of erase + length bytes ≤ i = omega (arith, long) in
            byte_after_outside put i (byte_after erase i (slice_index flash i)) (inr end)
            ∙ byte_after_outside erase i (slice_index flash i) (inr past)
            ∙ sym (spliced_above flash start len bytes same i past in_flash)
      ]
    ]

-- the masks of two lists, one behind the other
with_mask_append : (tear i : ℕ) (front back : List ℕ) → with_mask_bits tear i (front ++ back)
    ≡ with_mask_bits tear i front ++ with_mask_bits tear (i + length front) back
with_mask_append tear i [] back = ap (λ (n : ℕ). with_mask_bits tear n back) (sym (add-zero i))
with_mask_append tear i (byte ∷ front) back =
    let next : i + 1 + length front ≡ i + length (byte ∷ front) = omega arith in
    ap (λ (l : List ℕ). bit_or byte (mask_at tear i) ∷ l)
    (with_mask_append tear (i + 1) front back
    ∙ ap (λ (n : ℕ). with_mask_bits tear (i + 1) front ++ with_mask_bits tear n back) next)

-- two ranges side by side whose bytes have the bits of their masks set are one
pub masked_more : (flash : List ℕ) (at len more tear i : ℕ) → at + len ≤ length flash
    → masked (masked flash at len tear i) (at + len) more tear (i + len)
    ≡ masked flash at (len + more) tear i
masked_more flash at len more tear i inside =
    ap (λ (l : List ℕ). l ++ with_mask_bits tear (i + len) (take more (drop (at + len) mid))
    ++ drop (at + len + more) mid) first
    ∙ ap (λ (l : List ℕ). (low ++ marked) ++ with_mask_bits tear (i + len) (take more l)
    ++ drop (at + len + more) mid) rest_is
    ∙ ap (λ (l : List ℕ). (low ++ marked) ++ with_mask_bits tear (i + len) (take more rest) ++ l) last
    ∙ ap (λ (l : List ℕ). l ++ high) (append_assoc low marked (with_mask_bits tear (i + len) (take more rest)))
    ∙ ap (λ (l : List ℕ). low ++ l ++ high) (sym both)
  where
    low : List ℕ
    low = take at flash

    part : List ℕ
    part = take len (drop at flash)

    marked : List ℕ
    marked = with_mask_bits tear i part

    rest : List ℕ
    rest = drop (at + len) flash

    high : List ℕ
    high = drop (at + (len + more)) flash

    mid : List ℕ
    mid = masked flash at len tear i

    part_long : length part ≡ len
    part_long = omega (arith, inside, length-take len (drop at flash), length-drop at flash)

    long : length (low ++ marked) ≡ at + len
    long = omega (
      arith,
      inside,
      length-append low marked,
      length-take at flash,
      length_with_mask_bits tear i part,
      part_long,
    )

    first : take (at + len) mid ≡ low ++ marked
    first = ap (λ (n : ℕ). take n mid) (sym long)
        ∙ take-append_seam (low ++ marked) rest

    rest_is : drop (at + len) mid ≡ rest
    rest_is = ap (λ (n : ℕ). drop n mid) (sym long)
        ∙ drop-append_seam (low ++ marked) rest

    same_end : at + len + more ≡ at + (len + more)
    same_end = omega arith

    last : drop (at + len + more) mid ≡ high
    last = sym (drop-drop more (at + len) mid) ∙ ap (λ (l : List ℕ). drop more l) rest_is
        ∙ drop-drop more (at + len) flash ∙ ap (λ (n : ℕ). drop n flash) same_end

    both : with_mask_bits tear i (take (len + more) (drop at flash))
        ≡ marked ++ with_mask_bits tear (i + len) (take more rest)
    both = ap (with_mask_bits tear i)
        (take-add len more (drop at flash)
        ∙ ap (λ (l : List ℕ). part ++ take more l) (drop-drop len at flash))
        ∙ with_mask_append tear i part (take more rest)
        ∙ ap (λ (n : ℕ). marked ++ with_mask_bits tear (i + n) (take more rest)) part_long
