-- A record that is put into a free slot, at every moment; and what free slots give.
use Rattle.std.proofs.Common.{◌≡◌, ◌≤◌, ◌<◌, ◌⊎◌, ℕ, zero, suc, ◌+◌, ◌-◌, ◌*◌, Bool, true, false, ◌==◌, cond, List, [], ◌∷◌, ◌++◌, length, drop, get_or, Option, None, Some, refl, sym, ap, ◌∙◌, subst, inl, inr, arith, length-append}
use Rattle.std.specs.Prelude.{bit_and, replicate, slice_index}
use Rattle.std.specs.List.{All}
use Rattle.std.proofs.Math.Nat.{mod-eq_of_lt}
use Rattle.std.proofs.lemmas.Bool.{and_parts, cases_eq, cases_lt, eqb-true}
use Rattle.std.proofs.lemmas.Nat.{and_comm, and_mask}
use Rattle.std.proofs.lemmas.List.{append-nil, ext_get_or, get_or-append_right, get_or-drop, get_or-replicate, get_or-take, get_or_append_left}
use Rattle.std.proofs.lemmas.List.Elements.{All-get_or}
use Rattle.nor_device.specs.declared.step.Step.{Step}
use Rattle.nor_device.specs.declared.step.Step.TheVariants.{Program}
use Rattle.nor_device.specs.Flash.{after_steps, applied}
use Rattle.nor_device.specs.Nor.{part_of}
use Rattle.nor_device.specs.Torn.{Torn}
use Rattle.nor_device.proofs.EraseLaws.{length-part}
use Rattle.nor_device.proofs.FlashLaws.{byte_after_inside, byte_after_outside, byte_applied, length_applied}
use Rattle.nor_device.proofs.TornLaws.{torn_applied}
use Rattle.crash_images.specs.Agrees.{Agrees, IsBeside, StepsWithin}
use Rattle.crash_images.specs.Crash.{LeftAfter}
use Rattle.crash_images.proofs.AgreesLaws.{agrees_part, left_agrees}
use Rattle.crash_images.proofs.LeftLaws.{left_cases, left_end, left_none}
use Rattle.nvs_keys.specs.Changes.{Change}
use Rattle.nvs_keys.specs.Slots.{changes, cons_option, given, is_blank, slot_of, used}
use Rattle.nvs_keys.specs.Steps.{put_steps}
use Rattle.nvs_keys.proofs.SlotLemmas.{given_shut}

-- ---- parts of a flash

-- each byte from an address up to another, without it, is 0xFF
abbrev pub Erased : ℕ → ℕ → List ℕ → Type 0
Erased low high flash = (i : ℕ) → low ≤ i → i < high → slice_index flash i ≡ 255

-- a byte of a part
pub part_byte : (flash : List ℕ) (at len k : ℕ) → k < len
    → slice_index (part_of flash at len) k ≡ slice_index flash (at + k)
part_byte flash at len k inside = get_or-take len (drop at flash) k 0 inside ∙ get_or-drop at flash k 0

-- the gate of a slot
pub slot_gate : (flash : List ℕ) (at : ℕ) → slice_index (part_of flash at 64) 0 ≡ slice_index flash at
slot_gate flash at =
    let here : at + 0 ≡ at = omega arith in
    part_byte flash at 64 0 (omega arith) ∙ ap (λ (k : ℕ). get_or flash k 0) here

-- what stays of an erased range
pub erased_agrees : (Stays : ℕ → Type 0) (low high : ℕ) (old new : List ℕ) → high ≤ length old
    → ((i : ℕ) → low ≤ i → i < high → Stays i) → Agrees Stays old new → Erased low high old
    → Erased low high new
erased_agrees Stays low high old new inside stays agrees erased i from to =
    agrees.byte i (omega arith) (stays i from to) ∙ erased i from to

-- ---- what free slots give

-- a slot whose gate is 0xFF gives nothing
pub blank_gate : (flash : List ℕ) (at : ℕ) → slice_index flash at ≡ 255
    → given (part_of flash at 64) ≡ None
blank_gate flash at is =
    given_shut (part_of flash at 64) (λ e. omega (arith, slot_gate flash at, e, is))

pub changes_blank : (n at : ℕ) (flash : List ℕ) → Erased at (at + 64 * n) flash
    → changes flash at n ≡ []
changes_blank zero at flash erased = refl
changes_blank (suc n) at flash erased =
    ap (λ (o : Option Change). cons_option o (changes flash (at + 64) n))
    (blank_gate flash at (erased at (omega arith) (omega arith)))
    ∙ changes_blank n (at + 64) flash (λ i from to. erased i (omega arith) (omega arith))

-- slots that stay give what they gave
pub changes_same : (Stays : ℕ → Type 0) (old new : List ℕ) (n at : ℕ)
    → ((i : ℕ) → at ≤ i → i < at + 64 * n → Stays i) → Agrees Stays old new
    → changes new at n ≡ changes old at n
changes_same Stays old new zero at stays agrees = refl
changes_same Stays old new (suc n) at stays agrees =
    let slot : part_of new at 64 ≡ part_of old at 64 =
    agrees_part Stays old new at 64 (λ i from to. stays i from (omega arith)) agrees in
    let rest : changes new (at + 64) n ≡ changes old (at + 64) n =
    changes_same Stays old new n (at + 64) (λ i from to. stays i (omega arith) (omega arith)) agrees in
    λ i. cons_option (given (slot i)) (rest i)

cons_append : (o : Option Change) (cs ds : List Change)
    → cons_option o (cs ++ ds) ≡ cons_option o cs ++ ds
cons_append None cs ds = refl
cons_append (Some c) cs ds = refl

-- the first slots, and then the others
pub changes_split : (flash : List ℕ) (m n at : ℕ)
    → changes flash at (m + n) ≡ changes flash at m ++ changes flash (at + 64 * m) n
changes_split flash zero n at =
    let none : zero + n ≡ n = omega arith in
    let here : at ≡ at + 64 * zero = omega arith in
    ap (changes flash at) none ∙ ap (λ (a : ℕ). changes flash a n) here
changes_split flash (suc m) n at =
    let one : suc m + n ≡ suc (m + n) = omega arith in
    let to : at + 64 + 64 * m ≡ at + 64 * suc m = omega arith in
    ap (changes flash at) one
    ∙ ap (cons_option (given (part_of flash at 64))) (changes_split flash m n (at + 64))
    ∙ cons_append (given (part_of flash at 64)) (changes flash (at + 64) m) (changes flash (at + 64 + 64 * m) n)
    ∙ ap (λ (a : ℕ). changes flash at (suc m) ++ changes flash a n) to

-- where all slots behind one are free, they give what those before it and that one give
pub changes_one : (flash : List ℕ) (at many k : ℕ) → k < many
    → Erased (at + 64 * k + 64) (at + 64 * many) flash
    → changes flash at many
    ≡ changes flash at k ++ cons_option (given (part_of flash (at + 64 * k) 64)) []
changes_one flash at many k inside erased =
    let rest : ℕ = many - suc k in
    let all : many ≡ k + suc rest = omega arith in
    ap (changes flash at) all ∙ changes_split flash k (suc rest) at
    ∙ ap (λ (l : List Change). changes flash at k ++ cons_option (given (part_of flash (at + 64 * k) 64)) l)
    (changes_blank rest (at + 64 * k + 64) flash (λ i from to. erased i from (omega arith)))

-- ---- used slots

blank_byte : (bytes : List ℕ) → is_blank bytes ≡ true → (k : ℕ) → k < length bytes
    → slice_index bytes k ≡ 255
blank_byte [] is k inside = absurd (omega arith)
blank_byte (b ∷ bs) is zero inside = eqb-true b 255 (and_parts (b == 255) (is_blank bs) is).0
blank_byte (b ∷ bs) is (suc k) inside =
    blank_byte bs (and_parts (b == 255) (is_blank bs) is).1 k (omega arith)

pub used_most : (flash : List ℕ) (at n : ℕ) → used flash at n ≤ n
unfolding used
used_most flash at zero = omega arith
used_most flash at (suc n) = by (is_blank (part_of flash (at + 64 * n) 64)) (used_most flash at n)
  where
    by : (b : Bool) → used flash at n ≤ n → cond b (used flash at n) (suc n) ≤ suc n
    by true most = omega arith
    by false most = omega arith

-- behind the used slots each byte is 0xFF
pub used_blank : (flash : List ℕ) (at n : ℕ) → at + 64 * n ≤ length flash
    → Erased (at + 64 * used flash at n) (at + 64 * n) flash
unfolding used
used_blank flash at zero inside = λ i from to. absurd (omega arith)
used_blank flash at (suc n) inside =
    by (is_blank (part_of flash (at + 64 * n) 64)) refl (used_blank flash at n (omega arith))
  where
    by : (b : Bool) → is_blank (part_of flash (at + 64 * n) 64) ≡ b
        → Erased (at + 64 * used flash at n) (at + 64 * n) flash
        → Erased (at + 64 * cond b (used flash at n) (suc n)) (at + 64 * suc n) flash
    by true is rest i from to = elim (cases_lt i (at + 64 * n)) [
      | inl before ↦ rest i from before
      | inr later ↦
          let k : ℕ = i - (at + 64 * n) in
          let back : at + 64 * n + k ≡ i = omega arith in
          let size = length-part flash (at + 64 * n) 64 (omega arith) in
          ap (λ (j : ℕ). get_or flash j 0) (sym back)
          ∙ sym (part_byte flash (at + 64 * n) 64 k (omega arith))
          ∙ blank_byte (part_of flash (at + 64 * n) 64) is k (omega arith)
    ]
    by false is rest i from to = absurd (omega arith)

-- ---- a record in a free slot

-- a byte with which 0xFF is ANDed stays
pub kept_byte : (byte : ℕ) → byte < 256 → bit_and 255 byte ≡ byte
kept_byte byte small = and_comm 255 byte ∙ and_mask byte 8 ∙ mod-eq_of_lt small

-- a slot by its bytes
slot_is : (left : List ℕ) (at : ℕ) (bytes : List ℕ) → at + 64 ≤ length left → length bytes ≡ 51
    → ((k : ℕ) → k < 51 → slice_index left (at + 1 + k) ≡ slice_index bytes k)
    → ((k : ℕ) → 52 ≤ k → k < 64 → slice_index left (at + k) ≡ 255)
    → part_of left at 64 ≡ slot_of (slice_index left at) bytes
slot_is left at bytes inside size front back =
    let ff : List ℕ = replicate 12 255 in
    let long : length (part_of left at 64) ≡ 64 = length-part left at 64 inside in
    let all : length (slot_of (slice_index left at) bytes) ≡ 64 = omega (arith, length-append bytes ff) in
    ext_get_or 0 (part_of left at 64) (slot_of (slice_index left at) bytes) (long ∙ sym all) byte
  where
    byte : (i : ℕ) → i < length (part_of left at 64)
        → get_or (part_of left at 64) i 0 ≡ get_or (slot_of (slice_index left at) bytes) i 0
    byte zero h = slot_gate left at
    byte (suc k) h =
        let short : suc k < 64 = omega (arith, h, length-part left at 64 inside) in
        let next : at + suc k ≡ at + 1 + k = omega arith in
        let here = part_byte left at 64 (suc k) short in
        elim (cases_lt k 51) [
          | inl low ↦ here ∙ ap (λ (j : ℕ). get_or left j 0) next ∙ front k low
              ∙ sym (get_or_append_left bytes (replicate 12 255) 0 k (omega (arith, size)))
          | inr high ↦ here ∙ back (suc k) (omega arith) short
              ∙ sym (get_or-append_right bytes (replicate 12 255) 51 k 0 size high
              ∙ get_or-replicate 12 (k - 51) 255 0 (omega arith))
        ]

module _ (flash : List ℕ) (at : ℕ) (bytes : List ℕ) (inside : at + 64 ≤ length flash)
    (size : length bytes ≡ 51) (small : All (λ b. b < 256) bytes)
    (erased : Erased at (at + 64) flash) where
  -- the flash behind the program of the record
  abbrev recorded : List ℕ
  recorded = applied flash (Program (at + 1) bytes)

  record_byte : (k : ℕ) → k < 51 → slice_index recorded (at + 1 + k) ≡ slice_index bytes k
  record_byte k low =
      let step : Step = Program (at + 1) bytes in
      let i : ℕ = at + 1 + k in
      let back : i - (at + 1) ≡ k = omega arith in
      byte_applied flash step i (omega arith)
      ∙ byte_after_inside step i (get_or flash i 0) (omega arith) (omega (arith, size))
      ∙ ap (λ (b : ℕ). bit_and b (get_or bytes (i - (at + 1)) 0)) (erased i (omega arith) (omega arith))
      ∙ ap (λ (j : ℕ). bit_and 255 (get_or bytes j 0)) back
      ∙ kept_byte (get_or bytes k 0) (All-get_or (λ b. b < 256) bytes k 0 (omega (arith, size)) small)

  tail_byte : (k : ℕ) → 52 ≤ k → k < 64 → slice_index recorded (at + k) ≡ 255
  tail_byte k from to =
      let step : Step = Program (at + 1) bytes in
      byte_applied flash step (at + k) (omega arith)
      ∙ byte_after_outside step (at + k) (get_or flash (at + k) 0) (inr (omega (arith, size)))
      ∙ erased (at + k) (omega arith) (omega arith)

  gate_byte : slice_index recorded at ≡ 255
  gate_byte =
      let step : Step = Program (at + 1) bytes in
      byte_applied flash step at (omega arith)
      ∙ byte_after_outside step at (get_or flash at 0) (inl (omega arith))
      ∙ erased at (omega arith) (omega arith)

  -- a gate that is torn leaves the record behind it
  behind_gate : (left : List ℕ) → Torn recorded (Program at (0 ∷ [])) left
      → part_of left at 64 ≡ slot_of (slice_index left at) bytes
  behind_gate left torn =
      let long : length recorded ≡ length flash = length_applied flash (Program (at + 1) bytes) in
      slot_is left at bytes (omega (arith, long, torn.same_length)) size
      (λ k low. (torn.byte (at + 1 + k) (omega (arith, long))).outside (inr (omega arith)) ∙ record_byte k low)
      (λ k from to. (torn.byte (at + k) (omega (arith, long))).outside (inr (omega arith)) ∙ tail_byte k from to)

  gate_cases : (left : List ℕ) → Torn recorded (Program at (0 ∷ [])) left
      → (given (part_of left at 64) ≡ None) ⊎ (given (part_of left at 64) ≡ given (slot_of 0 bytes))
  gate_cases left torn =
      let slot = behind_gate left torn in
      elim (cases_eq (slice_index left at) 0) [
        | inl open_gate ↦ inr (ap given (slot ∙ ap (λ (g : ℕ). slot_of g bytes) open_gate))
        | inr shut ↦ inl (ap given slot ∙ given_shut (slot_of (slice_index left at) bytes) shut)
      ]

  -- at every moment the slot gives nothing, or the record
  pub put_left : (left : List ℕ) → LeftAfter flash (put_steps at bytes) left
      → (given (part_of left at 64) ≡ None) ⊎ (given (part_of left at 64) ≡ given (slot_of 0 bytes))
  put_left left after =
      let one : Step = Program (at + 1) bytes in
      let gate : Step = Program at (0 ∷ []) in
      elim (left_cases flash one (gate ∷ []) left after) [
        | inl is ↦ inl (blank_gate left at (ap (λ (f : List ℕ). get_or f at 0) is ∙ erased at (omega arith) (omega arith)))
        | inr more ↦ elim more [
          | inl torn ↦ inl (blank_gate left at ((torn.byte at (omega arith)).outside (inl (omega arith))
              ∙ erased at (omega arith) (omega arith)))
          | inr later ↦ elim (left_cases recorded gate [] left later) [
            | inl is ↦ inl (blank_gate left at (ap (λ (f : List ℕ). get_or f at 0) is ∙ gate_byte))
            | inr last ↦ elim last [
              | inl torn ↦ gate_cases left torn
              | inr done ↦ gate_cases left (subst (λ (f : List ℕ). Torn recorded gate f)
                  (sym (left_none (applied recorded gate) left done)) (torn_applied recorded gate))
            ]
          ]
        ]
      ]

  -- behind both programs it gives the record
  pub put_done : given (part_of (after_steps flash (put_steps at bytes)) at 64) ≡ given (slot_of 0 bytes)
  put_done =
      let gate : Step = Program at (0 ∷ []) in
      let done : List ℕ = applied recorded gate in
      let long : length recorded ≡ length flash = length_applied flash (Program (at + 1) bytes) in
      let back : at - at ≡ 0 = omega arith in
      let open_gate : slice_index done at ≡ 0 =
      byte_applied recorded gate at (omega (arith, long))
      ∙ byte_after_inside gate at (get_or recorded at 0) (omega arith) (omega arith)
      ∙ ap (λ (j : ℕ). bit_and (get_or recorded at 0) (get_or (0 ∷ []) j 0)) back
      ∙ ap (λ (b : ℕ). bit_and b 0) gate_byte in
      ap given (behind_gate done (torn_applied recorded gate) ∙ ap (λ (g : ℕ). slot_of g bytes) open_gate)

-- both programs stay in their slot
pub put_within : (at : ℕ) (bytes : List ℕ) → length bytes ≤ 51
    → StepsWithin at (at + 64) (put_steps at bytes)
put_within at bytes size = (
  record { from = omega arith; to = omega arith },
  (record { from = omega arith; to = omega arith }, tt),
)

-- ---- a record in a bank

module _ (flash : List ℕ) (at many k : ℕ) (bytes : List ℕ) (free : k < many)
    (inside : at + 64 * many ≤ length flash) (size : length bytes ≡ 51)
    (small : All (λ b. b < 256) bytes)
    (erased : Erased (at + 64 * k) (at + 64 * many) flash) where
  abbrev here : ℕ
  here = at + 64 * k

  -- the bank before
  before_put : changes flash at k ≡ changes flash at many
  before_put =
      let slot : given (part_of flash here 64) ≡ None = blank_gate flash here (erased here (omega arith) (omega arith)) in
      sym (changes_one flash at many k free (λ i from to. erased i (omega arith) to)
      ∙ ap (λ (o : Option Change). changes flash at k ++ cons_option o []) slot
      ∙ append-nil (changes flash at k))

  -- the bank where only that slot has changed
  behind_put : (left : List ℕ) (o : Option Change) → Agrees (IsBeside here (here + 64)) flash left
      → given (part_of left here 64) ≡ o
      → changes left at many ≡ changes flash at many ++ cons_option o []
  behind_put left o agrees is =
      changes_one left at many k free
      (erased_agrees (IsBeside here (here + 64)) (here + 64) (at + 64 * many) flash left inside
      (λ i from to. inr from) agrees (λ i from to. erased i (omega arith) to))
      ∙ ap (λ (g : Option Change). changes left at k ++ cons_option g []) is
      ∙ ap (λ (cs : List Change). cs ++ cons_option o [])
      (changes_same (IsBeside here (here + 64)) flash left k at (λ i from to. inl to) agrees ∙ before_put)

  -- at every moment the bank gives what it gave, and perhaps the record
  pub bank_put_left : (left : List ℕ) → LeftAfter flash (put_steps here bytes) left
      → (changes left at many ≡ changes flash at many)
      ⊎ (changes left at many ≡ changes flash at many ++ cons_option (given (slot_of 0 bytes)) [])
  bank_put_left left after =
      let agrees = left_agrees here (here + 64) flash (put_steps here bytes) left
      (put_within here bytes (omega (arith, size))) after in
      elim (put_left flash here bytes (omega arith) size small (λ i from to. erased i from (omega arith)) left after) [
        | inl none ↦ inl (behind_put left None agrees none ∙ append-nil (changes flash at many))
        | inr some ↦ inr (behind_put left (given (slot_of 0 bytes)) agrees some)
      ]

  -- behind both programs it gives the record last
  pub bank_put_done : changes (after_steps flash (put_steps here bytes)) at many
      ≡ changes flash at many ++ cons_option (given (slot_of 0 bytes)) []
  bank_put_done =
      let done : List ℕ = after_steps flash (put_steps here bytes) in
      let agrees = left_agrees here (here + 64) flash (put_steps here bytes) done
      (put_within here bytes (omega (arith, size))) (left_end flash (put_steps here bytes)) in
      behind_put done (given (slot_of 0 bytes)) agrees
      (put_done flash here bytes (omega arith) size small (λ i from to. erased i from (omega arith)))
