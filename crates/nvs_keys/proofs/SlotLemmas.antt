-- What a slot gives: nothing behind a gate that is not zero, and else what its first 52 bytes say.
use Rattle.std.proofs.Common.{◌≡◌, ◌≢◌, ◌≤◌, ◌<◌, ◌⊎◌, ℕ, ◌+◌, ◌-◌, Bool, true, false, ◌&&◌, ◌||◌, ◌==◌, cond, List, [], ◌∷◌, ◌++◌, length, take, drop, get_or, Option, None, Some, refl, sym, ap, ◌∙◌, inl, inr, arith, length-drop, ne_eqb}
use Rattle.std.specs.Prelude.{nat_le, replicate, slice_index, IfSome}
use Rattle.std.specs.List.{All}
use Rattle.std.proofs.lemmas.Bool.{cases_eq}
use Rattle.std.proofs.lemmas.Bool.Decides.{nat_tests}
use Rattle.std.proofs.lemmas.List.{append_assoc, drop-take, drop_at, drop_more, get_or-take, length-append, length-replicate, length-take, take-take, take_at}
use Rattle.std.proofs.lemmas.List.Elements.{All-append, All-cons, All-nil, All-replicate}
use Rattle.nor_device.specs.Nor.{part_of}
use Rattle.nvs_keys.specs.Changes.{Change, IsChange, IsValue, change_of}
use Rattle.nvs_keys.specs.Slots.{counts, given, length_byte, padded, record_bytes, slot_of, value_bytes, value_of}

-- ---- which gate gives something

-- what a slot gives, by its first three bytes
abbrev pub given_by : ℕ → ℕ → ℕ → List ℕ → Option Change
given_by gate key value slot =
    cond (counts gate key value) (Some (change_of (take key (drop 4 slot)) (value_of slot value))) None

pub given_is : (slot : List ℕ)
    → given slot ≡ given_by (slice_index slot 0) (slice_index slot 1) (slice_index slot 2) slot
unfolding given
given_is slot = refl

-- a gate that is not zero shuts the slot
pub counts_shut : (gate key value : ℕ) → gate ≢ 0 → counts gate key value ≡ false
unfolding counts
counts_shut gate key value shut =
    let no : (gate == 0) ≡ false = ne_eqb gate 0 shut in rw no refl

pub given_shut : (slot : List ℕ) → slice_index slot 0 ≢ 0 → given slot ≡ None
given_shut slot shut =
    given_is slot
    ∙ ap (λ (b : Bool). cond b (Some (change_of (take (slice_index slot 1) (drop 4 slot)) (value_of slot (slice_index slot 2)))) None)
    (counts_shut (slice_index slot 0) (slice_index slot 1) (slice_index slot 2) shut)

-- so a slot that gives something has a gate of zero
pub given_gate : (slot : List ℕ) (c : Change) → given slot ≡ Some c → slice_index slot 0 ≡ 0
given_gate slot c is = elim (cases_eq (slice_index slot 0) 0) [
  | inl zero_is ↦ zero_is
  | inr shut ↦ let none : given slot ≡ None = given_shut slot shut in absurd (cc)
]

-- ---- only the first 52 bytes count

pub record LengthsFit (key_length value_length : ℕ) : Type 0 where
  pub key : key_length ≤ 16
  pub value : (value_length ≤ 32) ⊎ (value_length ≡ 255)

lengths_fit : (gate key value : ℕ) → counts gate key value ≡ true → LengthsFit key value
unfolding counts
lengths_fit gate key value is = record { key = grind (arith, nat_tests); value = grind (arith, nat_tests) }

front_value : (slot : List ℕ) (value : ℕ) → (value ≤ 32) ⊎ (value ≡ 255)
    → value_of (take 52 slot) value ≡ value_of slot value
front_value slot value (inr removed) = rw removed refl
front_value slot value (inl most) =
    ap (λ (v : List ℕ). cond (value == 255) None (Some v))
    (ap (take value) (drop-take 20 32 slot) ∙ take-take value 32 (drop 20 slot) most)

front_by : (gate key value : ℕ) (slot : List ℕ)
    → given_by gate key value (take 52 slot) ≡ given_by gate key value slot
front_by gate key value slot = at (counts gate key value) refl
  where
    at : (b : Bool) → counts gate key value ≡ b
        → cond b (Some (change_of (take key (drop 4 (take 52 slot))) (value_of (take 52 slot) value))) None
        ≡ cond b (Some (change_of (take key (drop 4 slot)) (value_of slot value))) None
    at false is = refl
    at true is =
        let fit = lengths_fit gate key value is in
        let keys : take key (drop 4 (take 52 slot)) ≡ take key (drop 4 slot) =
        ap (take key) (drop-take 4 48 slot) ∙ take-take key 48 (drop 4 slot) (omega (arith, fit.key)) in
        let values : value_of (take 52 slot) value ≡ value_of slot value = front_value slot value fit.value in
        λ i. Some (change_of (keys i) (values i))

pub given_front : (slot : List ℕ) → given (take 52 slot) ≡ given slot
given_front slot =
    let gate : slice_index (take 52 slot) 0 ≡ slice_index slot 0 = get_or-take 52 slot 0 0 (omega arith) in
    let key : slice_index (take 52 slot) 1 ≡ slice_index slot 1 = get_or-take 52 slot 1 0 (omega arith) in
    let value : slice_index (take 52 slot) 2 ≡ slice_index slot 2 = get_or-take 52 slot 2 0 (omega arith) in
    given_is (take 52 slot)
    ∙ ap (λ (g : ℕ). given_by g (slice_index (take 52 slot) 1) (slice_index (take 52 slot) 2) (take 52 slot)) gate
    ∙ ap (λ (k : ℕ). given_by (slice_index slot 0) k (slice_index (take 52 slot) 2) (take 52 slot)) key
    ∙ ap (λ (v : ℕ). given_by (slice_index slot 0) (slice_index slot 1) v (take 52 slot)) value
    ∙ front_by (slice_index slot 0) (slice_index slot 1) (slice_index slot 2) slot
    ∙ sym (given_is slot)

-- ---- a copy

-- a record that is copied gives what it gave
pub given_copied : (flash : List ℕ) (from : ℕ) (c : Change) → from + 64 ≤ length flash
    → given (part_of flash from 64) ≡ Some c
    → given (slot_of 0 (part_of flash (from + 1) 51)) ≡ Some c
given_copied flash from c inside is =
    let bytes : List ℕ = part_of flash (from + 1) 51 in
    let tail : List ℕ = replicate 12 255 in
    let slot : List ℕ = part_of flash from 64 in
    let size : length bytes ≡ 51 = omega (arith, length-take 51 (drop (from + 1) flash), length-drop (from + 1) flash) in
    let head : drop from flash ≡ get_or flash from 0 ∷ drop (from + 1) flash = drop_more flash from 0 (omega arith) in
    let gate_is : slice_index slot 0 ≡ get_or flash from 0 =
    get_or-take 64 (drop from flash) 0 0 (omega arith) ∙ ap (λ (l : List ℕ). get_or l 0 0) head in
    let gate : get_or flash from 0 ≡ 0 = sym gate_is ∙ given_gate slot c is in
    let old : take 52 slot ≡ 0 ∷ bytes =
    take-take 52 64 (drop from flash) (omega arith) ∙ ap (take 52) head
    ∙ ap (λ (g : ℕ). g ∷ bytes) gate in
    let new : take 52 (slot_of 0 bytes) ≡ 0 ∷ bytes =
    ap (λ (l : List ℕ). 0 ∷ l) (take_at bytes tail 51 size) in
    sym (given_front (slot_of 0 bytes)) ∙ ap given (new ∙ sym old) ∙ given_front slot ∙ is

-- ---- a record

length_padded : (n : ℕ) (bytes : List ℕ) → length bytes ≤ n → length (padded n bytes) ≡ n
length_padded n bytes fits =
    omega (arith, length-append bytes (replicate (n - length bytes) 255), length-replicate {A = ℕ} (n - length bytes) 255)

value_fits : (value : Option (List ℕ)) → IfSome value IsValue → length (value_bytes value) ≤ 32
value_fits None fits = omega arith
value_fits (Some value) fits = fits.most

pub length_record : (c : Change) → IsChange c → length (record_bytes c) ≡ 51
unfolding record_bytes
length_record c is =
    let key = length_padded 16 c.key is.most in
    let value = length_padded 32 (value_bytes c.value) (value_fits c.value is.value) in
    let head : List ℕ = length c.key ∷ length_byte c.value ∷ 255 ∷ [] in
    omega (
      arith,
      length-append (head ++ padded 16 c.key) (padded 32 (value_bytes c.value)),
      length-append head (padded 16 c.key),
      key,
      value,
    )

all_padded : (n : ℕ) (bytes : List ℕ) → All (λ b. b < 256) bytes → All (λ b. b < 256) (padded n bytes)
all_padded n bytes small =
    All-append (λ b. b < 256) bytes (replicate (n - length bytes) 255) small
    (All-replicate (λ b. b < 256) (n - length bytes) 255 (omega arith))

value_small : (value : Option (List ℕ)) → IfSome value IsValue
    → All (λ b. b < 256) (value_bytes value) × (length_byte value < 256)
value_small None fits = (All-nil (λ b. b < 256), omega arith)
value_small (Some value) fits = (fits.bytes, omega (arith, fits.most))

-- the bytes of a record are bytes
pub record_small : (c : Change) → IsChange c → All (λ b. b < 256) (record_bytes c)
unfolding record_bytes
record_small c is =
    let P : ℕ → Type 0 = λ b. b < 256 in
    let value = value_small c.value is.value in
    let head : List ℕ = length c.key ∷ length_byte c.value ∷ 255 ∷ [] in
    let key_length : length c.key < 256 = omega (arith, is.most) in
    let front : All P head = All-cons P (length c.key) (length_byte c.value ∷ 255 ∷ []) key_length
    (All-cons P (length_byte c.value) (255 ∷ []) value.1 (All-cons P 255 [] (omega arith) (All-nil P))) in
    All-append P (head ++ padded 16 c.key) (padded 32 (value_bytes c.value))
    (All-append P head (padded 16 c.key) front (all_padded 16 c.key is.bytes))
    (all_padded 32 (value_bytes c.value) value.0)

record_counts : (c : Change) → IsChange c → counts 0 (length c.key) (length_byte c.value) ≡ true
unfolding counts
record_counts c is = at c.value is.value
  where
    at : (value : Option (List ℕ)) → IfSome value IsValue
        → ((nat_le 1 (length c.key) && nat_le (length c.key) 16) && (nat_le (length_byte value) 32 || (length_byte value == 255))) ≡ true
    at None fits =
        let low : 1 ≤ length c.key = is.least in
        let high : length c.key ≤ 16 = is.most in
        grind (arith, nat_tests)
    at (Some value) fits =
        let low : 1 ≤ length c.key = is.least in
        let high : length c.key ≤ 16 = is.most in
        let most : length value ≤ 32 = fits.most in
        grind (arith, nat_tests)

-- behind an open gate the record of a change gives it
pub given_record : (c : Change) → IsChange c → given (slot_of 0 (record_bytes c)) ≡ Some c
unfolding record_bytes
given_record c is =
    let tail : List ℕ = replicate 12 255 in
    let key : List ℕ = padded 16 c.key in
    let value : List ℕ = padded 32 (value_bytes c.value) in
    let slot : List ℕ = slot_of 0 (record_bytes c) in
    let behind : drop 4 slot ≡ key ++ (value ++ tail) = append_assoc key value tail in
    let keys : take (length c.key) (drop 4 slot) ≡ c.key =
    ap (take (length c.key)) (behind ∙ append_assoc c.key (replicate (16 - length c.key) 255) (value ++ tail))
    ∙ take_at c.key (replicate (16 - length c.key) 255 ++ (value ++ tail)) (length c.key) refl in
    let last : drop 20 slot ≡ value ++ tail =
    ap (drop 16) behind ∙ drop_at key (value ++ tail) 16 (length_padded 16 c.key is.most) in
    given_is slot
    ∙ ap (λ (b : Bool). cond b (Some (change_of (take (length c.key) (drop 4 slot)) (value_of slot (length_byte c.value)))) None)
    (record_counts c is)
    ∙ (λ i. Some (change_of (keys i) (at c.value is.value slot last i)))
  where
    at : (v : Option (List ℕ)) → IfSome v IsValue → (slot : List ℕ)
        → drop 20 slot ≡ padded 32 (value_bytes v) ++ replicate 12 255
        → value_of slot (length_byte v) ≡ v
    at None fits slot last = refl
    at (Some value) fits slot last =
        let most : length value ≤ 32 = fits.most in
        let kept : (length value == 255) ≡ false = ne_eqb (length value) 255 (λ e. omega arith) in
        ap (λ (b : Bool). cond b None (Some (take (length value) (drop 20 slot)))) kept
        ∙ ap (λ (l : List ℕ). Some (take (length value) l))
        (last ∙ append_assoc value (replicate (32 - length value) 255) (replicate 12 255))
        ∙ ap (λ (l : List ℕ). Some l)
        (take_at value (replicate (32 - length value) 255 ++ replicate 12 255) (length value) refl)
