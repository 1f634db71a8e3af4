-- Which bank is active, by its header and that of the other bank; and a flash in which a bank stays.
use Rattle.std.proofs.Common.{◌≡◌, ◌≤◌, ◌<◌, ◌⊎◌, ℕ, ◌+◌, ◌*◌, ◌%◌, ◌^◌, ◌==◌, Bool, true, false, cond, List, [], length, drop, Option, None, Some, refl, sym, ap, ◌∙◌, subst, inl, inr, arith, ne_eqb, eq-eqb}
use Rattle.std.specs.Prelude.{nat_lt, replicate}
use Rattle.std.proofs.lemmas.Bool.{cases_eq}
use Rattle.std.proofs.lemmas.Bool.Decides.{nat_tests}
use Rattle.std.proofs.lemmas.List.{append-nil, drop_at, ext_get_or, get_or-replicate, length-replicate}
use Rattle.byteorder.specs.Endian.{little_bytes, little_number}
use Rattle.byteorder.specs.Numbers.{length-bytes_low_first, little_number-reads_back}
use Rattle.nor_device.specs.Nor.{part_of}
use Rattle.nor_device.proofs.EraseLaws.{length-part}
use Rattle.crash_images.specs.Agrees.{Agrees, IsBeside}
use Rattle.crash_images.proofs.AgreesLaws.{agrees_part}
use Rattle.otadata.specs.Crc.{crc}
use Rattle.nvs_keys.specs.declared.bank.Bank.{Bank}
use Rattle.nvs_keys.specs.declared.bank.Bank.TheVariants.{First, Second}
use Rattle.nvs_keys.specs.Changes.{Map, map_after, no_keys}
use Rattle.nvs_keys.specs.declared.place.Place.{Place}
use Rattle.nvs_keys.specs.Banks.{IsGeneration, IsPlace, active_in, active_of, bank_at, bank_changes, header_bytes, keys_in, keys_of, map_of, mark_in, mark_of, matches, other, records, records_at}
use Rattle.nvs_keys.specs.Left.{Knows}
use Rattle.nvs_keys.proofs.PutLemmas.{Erased, changes_same, part_byte}

-- ---- where the banks lie

-- header and records fill a bank
pub records_fill : (p : Place) (size : ℕ) → IsPlace p size → 64 + 64 * records p ≡ p.half
records_fill p size place = omega (arith, place.whole, place.some)

-- an address of a bank lies outside the other one
pub apart : (p : Place) (bank : Bank) (i : ℕ) → bank_at p bank ≤ i → i < bank_at p bank + p.half
    → IsBeside (bank_at p (other bank)) (bank_at p (other bank) + p.half) i
apart p First i from to = inl to
apart p Second i from to = inr from

pub apart_other : (p : Place) (bank : Bank) (i : ℕ) → bank_at p (other bank) ≤ i
    → i < bank_at p (other bank) + p.half → IsBeside (bank_at p bank) (bank_at p bank + p.half) i
apart_other p First i from to = inr from
apart_other p Second i from to = inl to

-- both banks lie in the flash, each at a sector
pub record Lies (p : Place) (size : ℕ) (bank : Bank) : Type 0 where
  pub inside : bank_at p bank + p.half ≤ size
  pub begins : bank_at p bank % 4096 ≡ 0

pub lies : (p : Place) (size : ℕ) (bank : Bank) → IsPlace p size → Lies p size bank
lies p size First place = record { inside = omega (arith, place.inside); begins = place.begins }
lies p size Second place = record { inside = omega (arith, place.inside); begins = omega (arith, place.begins, place.whole) }

-- ---- headers

-- a header that stays keeps its mark
pub mark_same : (Stays : ℕ → Type 0) (p : Place) (old new : List ℕ) (bank : Bank)
    → ((i : ℕ) → bank_at p bank ≤ i → i < bank_at p bank + 8 → Stays i) → Agrees Stays old new
    → mark_in p new bank ≡ mark_in p old bank
mark_same Stays p old new bank stays agrees =
    ap mark_of (agrees_part Stays old new (bank_at p bank) 8 stays agrees)

-- an erased header has none
blank_mark : mark_of (replicate 8 255) ≡ None
unfolding mark_of matches
blank_mark = refl

pub mark_blank : (p : Place) (flash : List ℕ) (bank : Bank) → bank_at p bank + 8 ≤ length flash
    → Erased (bank_at p bank) (bank_at p bank + 8) flash → mark_in p flash bank ≡ None
mark_blank p flash bank inside erased =
    let at : ℕ = bank_at p bank in
    let long : length (part_of flash at 8) ≡ 8 = length-part flash at 8 inside in
    ap mark_of (ext_get_or 0 (part_of flash at 8) (replicate 8 255)
    (long ∙ sym (length-replicate {A = ℕ} 8 255)) (λ k h.
    let low : k < 8 = omega (arith, h, long) in
    part_byte flash at 8 k low ∙ erased (at + k) (omega arith) (omega arith)
    ∙ sym (get_or-replicate 8 k 255 0 low))) ∙ blank_mark

crc_small : (generation : ℕ) → crc generation < 2 ^ 32
unfolding crc
crc_small generation = omega arith

pub length_header : (generation : ℕ) → length (header_bytes generation) ≡ 8
unfolding header_bytes
length_header generation =
    omega (
      arith,
      Rattle.std.proofs.lemmas.List.length-append (little_bytes 4 generation) (little_bytes 4 (crc generation)),
      length-bytes_low_first 0 4 generation,
      length-bytes_low_first 0 4 (crc generation),
    )

-- the number that a header begins with
pub header_number : (generation : ℕ) → generation < 0xFFFFFFFF
    → little_number 4 (header_bytes generation) ≡ generation
unfolding header_bytes
header_number generation small =
    little_number-reads_back 4 generation (little_bytes 4 (crc generation)) (omega arith)

header_sum : (generation : ℕ) → little_number 4 (drop 4 (header_bytes generation)) ≡ crc generation
unfolding header_bytes
header_sum generation =
    let sum : List ℕ = little_bytes 4 (crc generation) in
    ap (little_number 4) (drop_at (little_bytes 4 generation) sum 4 (length-bytes_low_first 0 4 generation)
    ∙ sym (append-nil sum))
    ∙ little_number-reads_back 4 (crc generation) [] (crc_small generation)

matches_own : (generation : ℕ) → IsGeneration generation → matches generation (crc generation) ≡ true
unfolding matches
matches_own generation is =
    let written : (generation == 0xFFFFFFFF) ≡ false = ne_eqb generation 0xFFFFFFFF (λ e. omega (arith, is.most)) in
    let numbered : (generation == 0) ≡ false = ne_eqb generation 0 (λ e. omega (arith, is.some)) in
    let fits : (crc generation == crc generation) ≡ true = eq-eqb (crc generation) (crc generation) refl in
    rw (written, numbered, fits) refl

-- the header of a generation has it
pub mark_header : (generation : ℕ) → IsGeneration generation
    → mark_of (header_bytes generation) ≡ Some generation
unfolding mark_of
mark_header generation is =
    (λ i. cond (matches (header_number generation is.most i) (header_sum generation i))
    (Some (header_number generation is.most i)) None)
    ∙ ap (λ (b : Bool). cond b (Some generation) None) (matches_own generation is)

-- a header that is found has none, the known one, or another one
pub mark_cases : (found known : Option ℕ)
    → (found ≡ None) ⊎ ((found ≡ known) ⊎ ((g : ℕ) × (found ≡ Some g) × (¬ (known ≡ Some g))))
mark_cases None known = inl refl
mark_cases (Some g) None = inr (inr (g, refl, λ e. cc))
mark_cases (Some g) (Some k) = elim (cases_eq g k) [
  | inl same ↦ inr (inl (ap (λ (n : ℕ). Some n) same))
  | inr differs ↦ inr (inr (g, refl, λ e. differs (cc)))
]

-- ---- the active bank

-- the bank that is alone
pub active_alone : (marks : Bank → Option ℕ) (bank : Bank) (g : ℕ) → marks bank ≡ Some g
    → marks (other bank) ≡ None → active_of (marks First) (marks Second) ≡ Some bank
active_alone marks First g own none = λ i. active_of (own i) (none i)
active_alone marks Second g own none = λ i. active_of (none i) (own i)

-- the bank with the next generation
pub active_later : (marks : Bank → Option ℕ) (bank : Bank) (g : ℕ) → marks bank ≡ Some g
    → marks (other bank) ≡ Some (g + 1) → active_of (marks First) (marks Second) ≡ Some (other bank)
active_later marks First g own next =
    let test : nat_lt g (g + 1) ≡ true = grind (arith, nat_tests) in
    (λ i. active_of (own i) (next i)) ∙ ap (λ (b : Bool). cond b (Some Second) (Some First)) test
active_later marks Second g own next =
    let test : nat_lt (g + 1) g ≡ false = grind (arith, nat_tests) in
    (λ i. active_of (next i) (own i)) ∙ ap (λ (b : Bool). cond b (Some Second) (Some First)) test

-- the same headers
pub active_same : (marks known : Bank → Option ℕ) (bank : Bank) → marks bank ≡ known bank
    → marks (other bank) ≡ known (other bank)
    → active_of (marks First) (marks Second) ≡ active_of (known First) (known Second)
active_same marks known First one two = λ i. active_of (one i) (two i)
active_same marks known Second one two = λ i. active_of (two i) (one i)

-- the keys are those of the active bank
pub keys_active : (p : Place) (flash : List ℕ) (bank : Bank) → active_in p flash ≡ Some bank
    → keys_in p flash ≡ Some (map_of p flash bank)
keys_active p flash bank is = ap (keys_of p flash) is

-- ---- a bank that stays

pub bank_same : (Stays : ℕ → Type 0) (p : Place) (old new : List ℕ) (bank : Bank)
    → IsPlace p (length old)
    → ((i : ℕ) → bank_at p bank + 64 ≤ i → i < bank_at p bank + p.half → Stays i) → Agrees Stays old new
    → bank_changes p new bank ≡ bank_changes p old bank
bank_same Stays p old new bank place stays agrees =
    changes_same Stays old new (records p) (records_at p bank)
    (λ i from to. stays i from (omega (arith, records_fill p (length old) place))) agrees

pub map_is : (p : Place) (flash : List ℕ) (bank : Bank)
    → map_of p flash bank ≡ map_after no_keys (bank_changes p flash bank)
unfolding map_of
map_is p flash bank = refl

pub map_same : (Stays : ℕ → Type 0) (p : Place) (old new : List ℕ) (bank : Bank)
    → IsPlace p (length old)
    → ((i : ℕ) → bank_at p bank + 64 ≤ i → i < bank_at p bank + p.half → Stays i) → Agrees Stays old new
    → map_of p new bank ≡ map_of p old bank
map_same Stays p old new bank place stays agrees =
    map_is p new bank ∙ ap (map_after no_keys) (bank_same Stays p old new bank place stays agrees)
    ∙ sym (map_is p old bank)

-- the flash has changed in the other bank alone
abbrev pub Spares : Place → Bank → List ℕ → List ℕ → Type 0
Spares p bank old new =
    Agrees (IsBeside (bank_at p (other bank)) (bank_at p (other bank) + p.half)) old new

module _ (p : Place) (old new : List ℕ) (bank : Bank) (g : ℕ) (knows : Knows p old bank g)
    (spares : Spares p bank old new) where
  -- the header of the bank stays
  pub own_mark : mark_in p new bank ≡ Some g
  own_mark =
      mark_same (IsBeside (bank_at p (other bank)) (bank_at p (other bank) + p.half)) p old new bank
      (λ i from to. apart p bank i from (omega (arith, knows.place.some))) spares ∙ knows.mark

  -- so do its keys
  pub own_map : map_of p new bank ≡ map_of p old bank
  own_map =
      map_same (IsBeside (bank_at p (other bank)) (bank_at p (other bank) + p.half)) p old new bank knows.place
      (λ i from to. apart p bank i (omega arith) to) spares

  -- it is still active, unless the other bank has got another header
  pub still_active : (mark_in p new (other bank) ≡ None) ⊎ (mark_in p new (other bank) ≡ mark_in p old (other bank))
      → active_in p new ≡ Some bank
  still_active (inl none) = active_alone (mark_in p new) bank g own_mark none
  still_active (inr same) =
      active_same (mark_in p new) (mark_in p old) bank (own_mark ∙ sym knows.mark) same ∙ knows.active

  -- then the keys stay
  pub same_keys_in : (mark_in p new (other bank) ≡ None) ⊎ (mark_in p new (other bank) ≡ mark_in p old (other bank))
      → keys_in p new ≡ keys_in p old
  same_keys_in mark =
      keys_active p new bank (still_active mark) ∙ ap (λ (m : Map). Some m) own_map
      ∙ sym (keys_active p old bank knows.active)

-- a bank is known again where its place, its header and that of the other bank stay
pub knows_again : (p : Place) (old new : List ℕ) (bank : Bank) (g : ℕ) → Knows p old bank g
    → length new ≡ length old → mark_in p new bank ≡ mark_in p old bank
    → mark_in p new (other bank) ≡ mark_in p old (other bank) → Knows p new bank g
knows_again p old new bank g knows long own their = record {
  place = subst (IsPlace p) (sym long) knows.place;
  active = active_same (mark_in p new) (mark_in p old) bank own their ∙ knows.active;
  mark = own ∙ knows.mark;
}
