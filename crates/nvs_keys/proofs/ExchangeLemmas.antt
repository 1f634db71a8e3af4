-- The exchange of banks: the same keys at every moment, unless a header matches by chance; behind it the
-- other bank is active, has the live changes, and has room.
use Rattle.std.proofs.Common.{◌≡◌, ◌≤◌, ◌<◌, ◌⊎◌, ℕ, zero, suc, ◌+◌, ◌-◌, ◌*◌, ◌/◌, ◌%◌, List, [], ◌∷◌, ◌++◌, length, take, drop, get_or, None, Some, refl, sym, ap, ◌∙◌, subst, inl, inr, arith, length-drop}
use Rattle.std.specs.Prelude.{bit_and, replicate}
use Rattle.std.specs.List.{All, AllByRecursion}
use Rattle.std.specs.Int.{byte_at, bytes_low_first}
use Rattle.std.proofs.lemmas.Bool.{cases_eq}
use Rattle.std.proofs.lemmas.List.{append_assoc, ext_get_or, get_or-replicate, length-replicate, length-take}
use Rattle.std.proofs.lemmas.List.Elements.{All-append, All-cons, All-get_or, All-nil}
use Rattle.byteorder.specs.Endian.{little_bytes}
use Rattle.nor_device.specs.declared.step.Step.{Step}
use Rattle.nor_device.specs.declared.step.Step.TheVariants.{Erase, Program}
use Rattle.nor_device.specs.Flash.{after_steps, applied, end_of}
use Rattle.nor_device.specs.Nor.{part_of}
use Rattle.nor_device.specs.Torn.{Torn}
use Rattle.nor_device.proofs.EraseLaws.{length-part}
use Rattle.nor_device.proofs.FlashLaws.{after_steps_append, byte_after_inside, byte_applied, length-after_steps, length_applied}
use Rattle.nor_device.proofs.Splice.{spliced_within}
use Rattle.nor_device.proofs.TornLaws.{torn_applied}
use Rattle.crash_images.specs.Agrees.{Agrees, IsBeside, StepsWithin}
use Rattle.crash_images.specs.Crash.{LeftAfter}
use Rattle.crash_images.proofs.AgreesLaws.{left_agrees, within_of_torn}
use Rattle.crash_images.proofs.LeftLaws.{left_append, left_cases, left_end, left_none}
use Rattle.otadata.specs.Crc.{crc}
use Rattle.flash_steps.specs.Steps.{LiesIn, erase_steps}
use Rattle.flash_steps.proofs.EraseLemmas.{bytes_of_erase, inside_of_erase, one_erase, pieces_of_erase}
use Rattle.nvs_keys.specs.declared.bank.Bank.{Bank}
use Rattle.nvs_keys.specs.Changes.{Map, live, map_after, no_keys}
use Rattle.nvs_keys.specs.declared.place.Place.{Place}
use Rattle.nvs_keys.specs.Banks.{IsGeneration, IsPlace, active_in, bank_at, bank_changes, header_bytes, keys_in, live_in, map_of, mark_in, mark_of, other, records, records_at}
use Rattle.nvs_keys.specs.Steps.{copies, exchange_steps, slot_at}
use Rattle.nvs_keys.specs.Left.{ChanceIn, Knows}
use Rattle.nvs_keys.proofs.MapLemmas.{live_map}
use Rattle.nvs_keys.proofs.PutLemmas.{Erased, erased_agrees, kept_byte, part_byte}
use Rattle.nvs_keys.proofs.CopyLemmas.{copied, copied_blank, copies_within, steps_append, steps_wider}
use Rattle.nvs_keys.proofs.ActiveLemmas.{Spares, active_later, header_number, keys_active, length_header, lies, map_is, bank_same, mark_blank, mark_cases, mark_header, own_mark, records_fill, same_keys_in}

-- ---- erases

lie_within : (low high : ℕ) (steps : List Step) → AllByRecursion (LiesIn low high) steps
    → StepsWithin low high steps
lie_within low high [] lie = tt
lie_within low high (step ∷ steps) lie =
    (record { from = lie.0.0; to = lie.0.1 }, lie_within low high steps lie.1)

-- an erase stays in its range
pub erase_within : (at len : ℕ) → at % 4096 ≡ 0 → len % 4096 ≡ 0
    → StepsWithin at (at + len) (erase_steps at len)
erase_within at len begins whole = lie_within at (at + len) (erase_steps at len) (inside_of_erase at len begins whole)

-- and leaves it erased
pub erased_by : (at len : ℕ) (flash : List ℕ) → at % 4096 ≡ 0 → len % 4096 ≡ 0
    → at + len ≤ length flash → Erased at (at + len) (after_steps flash (erase_steps at len))
erased_by at len flash begins whole inside i from to =
    let ff : List ℕ = replicate len 255 in
    let size : length ff ≡ len = length-replicate {A = ℕ} len 255 in
    let same : length ff ≡ length (take (length ff) (drop at flash)) =
    omega (arith, size, length-take (length ff) (drop at flash), length-drop at flash) in
    ap (λ (f : List ℕ). get_or f i 0) (bytes_of_erase at len flash begins whole inside)
    ∙ spliced_within flash at (length ff) ff same i from (omega (arith, size)) (omega arith)
    ∙ get_or-replicate len (i - at) 255 0 (omega arith)

-- the first sector of a bank, and the others
pub erase_first : (at len : ℕ) → at % 4096 ≡ 0 → 4096 ≤ len
    → erase_steps at len ≡ Erase (at / 4096) ∷ erase_steps (at + 4096) (len - 4096)
erase_first at len begins some =
    let all : len ≡ 4096 + (len - 4096) = omega arith in
    ap (erase_steps at) all ∙ pieces_of_erase at 4096 (len - 4096) begins (omega arith)
    ∙ ap (λ (steps : List Step). steps ++ erase_steps (at + 4096) (len - 4096)) (one_erase at)

-- an erase of the sector at an address
pub sector_erased : (flash : List ℕ) (at : ℕ) → at % 4096 ≡ 0 → at + 4096 ≤ length flash
    → Erased at (at + 4096) (applied flash (Erase (at / 4096)))
sector_erased flash at begins inside i from to =
    byte_applied flash (Erase (at / 4096)) i (omega arith)
    ∙ byte_after_inside (Erase (at / 4096)) i (get_or flash i 0) (omega arith) (omega arith)

-- ---- headers

-- bytes that are programmed where each byte is 0xFF
programmed : (flash : List ℕ) (at : ℕ) (bytes : List ℕ) → at + length bytes ≤ length flash
    → All (λ b. b < 256) bytes → Erased at (at + length bytes) flash
    → part_of (applied flash (Program at bytes)) at (length bytes) ≡ bytes
programmed flash at bytes inside small erased =
    let step : Step = Program at bytes in
    let new : List ℕ = applied flash step in
    let long : length (part_of new at (length bytes)) ≡ length bytes =
    length-part new at (length bytes) (omega (arith, length_applied flash step)) in
    ext_get_or 0 (part_of new at (length bytes)) bytes long (λ k h.
    let low : k < length bytes = omega (arith, h, long) in
    let back : at + k - at ≡ k = omega arith in
    part_byte new at (length bytes) k low
    ∙ byte_applied flash step (at + k) (omega arith)
    ∙ byte_after_inside step (at + k) (get_or flash (at + k) 0) (omega arith) (omega arith)
    ∙ ap (λ (b : ℕ). bit_and b (get_or bytes (at + k - at) 0)) (erased (at + k) (omega arith) (omega arith))
    ∙ ap (λ (j : ℕ). bit_and 255 (get_or bytes j 0)) back
    ∙ kept_byte (get_or bytes k 0) (All-get_or (λ b. b < 256) bytes k 0 low small))

-- a byte of a number is a byte
byte_small : (i x : ℕ) → byte_at i x < 256
byte_small zero x = omega arith
byte_small (suc i) x = omega arith

-- so are those of its bytes
low_small : (i n x : ℕ) → All (λ b. b < 256) (bytes_low_first i n x)
low_small i zero x = All-nil (λ b. b < 256)
low_small i (suc n) x =
    All-cons (λ b. b < 256) (byte_at i x) (bytes_low_first (suc i) n x) (byte_small i x) (low_small (suc i) n x)

header_small : (generation : ℕ) → All (λ b. b < 256) (header_bytes generation)
unfolding header_bytes
header_small generation =
    All-append (λ b. b < 256) (little_bytes 4 generation) (little_bytes 4 (crc generation))
    (low_small 0 4 generation) (low_small 0 4 (crc generation))

-- a header that is programmed where each byte is 0xFF has its generation
pub header_done : (p : Place) (flash : List ℕ) (bank : Bank) (generation : ℕ)
    → bank_at p bank + 8 ≤ length flash → Erased (bank_at p bank) (bank_at p bank + 8) flash
    → IsGeneration generation
    → mark_in p (applied flash (Program (bank_at p bank) (header_bytes generation))) bank ≡ Some generation
header_done p flash bank generation inside erased is =
    let size = length_header generation in
    let at : ℕ = bank_at p bank in
    let new : List ℕ = applied flash (Program at (header_bytes generation)) in
    let written : part_of new at (length (header_bytes generation)) ≡ header_bytes generation =
    programmed flash at (header_bytes generation) (omega arith) (header_small generation)
    (λ i from to. erased i from (omega arith)) in
    ap mark_of (ap (part_of new at) (sym size) ∙ written) ∙ mark_header generation is

-- ---- chance

-- an interrupted step of a first part of a call is one of the call
pub chance_front : (p : Place) (first : List ℕ) (front back : List Step) (left : List ℕ)
    → ChanceIn p first front left → ChanceIn p first (front ++ back) left
chance_front p first front back left chance = record {
  made = chance.made;
  step = chance.step;
  rest = chance.rest ++ back;
  split = ap (λ (l : List Step). l ++ back) chance.split
      ∙ append_assoc chance.made (chance.step ∷ chance.rest) back;
  torn = chance.torn;
  chance = chance.chance;
}

-- ---- the exchange

module _ (p : Place) (first : List ℕ) (bank : Bank) (g : ℕ) (knows : Knows p first bank g)
    (small : All (λ b. b < 256) first) (room : live_in p first bank < records p)
    (next : g < 0xFFFFFFFE) where
  abbrev to : ℕ
  to = bank_at p (other bank)

  -- the steps behind the first erase and before the header
  abbrev middle : List Step
  middle = erase_steps (bank_at p (other bank) + 4096) (p.half - 4096)
      ++ copies first (records_at p bank) (records p) (records_at p (other bank))

  abbrev begin : Step
  begin = Erase (bank_at p (other bank) / 4096)

  abbrev header : Step
  header = Program (bank_at p (other bank)) (header_bytes (g + 1))

  fills : 64 + 64 * records p ≡ p.half
  fills = records_fill p (length first) knows.place

  inside : bank_at p (other bank) + p.half ≤ length first
  inside = (lies p (length first) (other bank) knows.place).inside

  begins : bank_at p (other bank) % 4096 ≡ 0
  begins = (lies p (length first) (other bank) knows.place).begins

  is_generation : IsGeneration (g + 1)
  is_generation = record { some = omega arith; most = omega arith }

  -- the exchange by its first erase, its middle and its header
  parts : exchange_steps p first bank g ≡ begin ∷ (middle ++ header ∷ [])
  parts = ap (λ (steps : List Step). steps
      ++ copies first (records_at p bank) (records p) (records_at p (other bank)) ++ header ∷ [])
      (erase_first (bank_at p (other bank)) p.half begins knows.place.some)

  middle_within : StepsWithin (to + 64) (to + p.half) middle
  middle_within =
      steps_append (to + 64) (to + p.half) (erase_steps (to + 4096) (p.half - 4096))
      (copies first (records_at p bank) (records p) (records_at p (other bank)))
      (steps_wider (to + 4096) (to + 4096 + (p.half - 4096)) (to + 64) (to + p.half)
      (erase_steps (to + 4096) (p.half - 4096)) (omega arith) (omega (arith, knows.place.some))
      (erase_within (to + 4096) (p.half - 4096) (omega (arith, begins)) (omega (arith, knows.place.whole, knows.place.some))))
      (steps_wider (to + 64) (to + 64 + 64 * live_in p first bank) (to + 64) (to + p.half)
      (copies first (records_at p bank) (records p) (records_at p (other bank))) (omega arith) (omega (arith, fills, room))
      (copies_within first (records_at p bank) (records p) (records_at p (other bank))))

  exchange_within : StepsWithin to (to + p.half) (begin ∷ (middle ++ header ∷ []))
  exchange_within = (
    record { from = omega (arith, begins); to = omega (arith, begins, knows.place.some) },
    steps_append to (to + p.half) middle (header ∷ [])
        (steps_wider (to + 64) (to + p.half) to (to + p.half) middle (omega arith) (omega arith) middle_within)
        (record { from = omega arith; to = omega (arith, length_header (g + 1), knows.place.some) }, tt),
  )

  -- nothing of the bank has changed at any moment
  spares : (left : List ℕ) → LeftAfter first (begin ∷ (middle ++ header ∷ [])) left
      → Spares p bank first left
  spares left after = left_agrees to (to + p.half) first (begin ∷ (middle ++ header ∷ [])) left exchange_within after

  -- behind the erases and the copies
  abbrev filled : List ℕ
  filled = after_steps (applied first begin) middle

  filled_is : filled
      ≡ after_steps (after_steps first (erase_steps (bank_at p (other bank)) p.half))
      (copies first (records_at p bank) (records p) (records_at p (other bank)))
  filled_is =
      ap (λ (steps : List Step). after_steps first (steps
      ++ copies first (records_at p bank) (records p) (records_at p (other bank))))
      (sym (erase_first (bank_at p (other bank)) p.half begins knows.place.some))
      ∙ after_steps_append first (erase_steps (bank_at p (other bank)) p.half)
      (copies first (records_at p bank) (records p) (records_at p (other bank)))

  -- the header is erased from the first erase on
  header_blank : (left : List ℕ) → LeftAfter (applied first begin) middle left
      → Erased to (to + 8) left
  header_blank left after =
      erased_agrees (IsBeside (to + 64) (to + p.half)) to (to + 8) (applied first begin) left
      (omega (arith, inside, knows.place.some, length_applied first begin))
      (λ i from up. inl (omega arith))
      (left_agrees (to + 64) (to + p.half) (applied first begin) middle left middle_within after)
      (λ i from up. sector_erased first to begins (omega (arith, inside, knows.place.some)) i from (omega arith))

  length_left : (left : List ℕ) → LeftAfter (applied first begin) middle left → length left ≡ length first
  length_left left after =
      (left_agrees (to + 64) (to + p.half) (applied first begin) middle left middle_within after).same_length
      ∙ length_applied first begin

  no_mark : (left : List ℕ) → LeftAfter (applied first begin) middle left → mark_in p left (other bank) ≡ None
  no_mark left after =
      mark_blank p left (other bank) (omega (arith, length_left left after, inside, knows.place.some))
      (header_blank left after)

  free : Erased (records_at p (other bank)) (records_at p (other bank) + 64 * records p)
      (after_steps first (erase_steps (bank_at p (other bank)) p.half))
  free i from up =
      erased_by to p.half first begins knows.place.whole inside i (omega arith) (omega (arith, fills))

  -- the other bank has the live changes
  filled_changes : bank_changes p filled (other bank) ≡ live (bank_changes p first bank)
  filled_changes =
      let now : List ℕ = after_steps first (erase_steps (bank_at p (other bank)) p.half) in
      ap (λ (f : List ℕ). bank_changes p f (other bank)) filled_is
      ∙ copied first small (records_at p bank) (records p)
      (omega (arith, fills, (lies p (length first) bank knows.place).inside))
      (records_at p (other bank)) (records p) now
      (omega (arith, fills, inside, length-after_steps first (erase_steps (bank_at p (other bank)) p.half)))
      free (omega (arith, room))

  -- and each byte of its free slots is 0xFF
  filled_free : Erased (slot_at p (other bank) (live_in p first bank)) (to + p.half) filled
  filled_free i from up =
      let now : List ℕ = after_steps first (erase_steps (bank_at p (other bank)) p.half) in
      ap (λ (f : List ℕ). get_or f i 0) filled_is
      ∙ copied_blank first (records_at p bank) (records p) (records_at p (other bank)) (records p) now
      (omega (arith, fills, inside, length-after_steps first (erase_steps (bank_at p (other bank)) p.half)))
      free i from (omega (arith, fills))

  -- where the header has the next generation, and else only the header has changed since
  module _ (left : List ℕ) (spared : Spares p bank first left) (mark : mark_in p left (other bank) ≡ Some (g + 1))
      (agrees : Agrees (IsBeside (bank_at p (other bank)) (bank_at p (other bank) + 8)) filled left) where
    turned_active : active_in p left ≡ Some (other bank)
    turned_active = active_later (mark_in p left) bank g (own_mark p first left bank g knows spared) mark

    place_filled : IsPlace p (length filled)
    place_filled =
        subst (IsPlace p) (sym (length-after_steps (applied first begin) middle ∙ length_applied first begin)) knows.place

    turned_changes : bank_changes p left (other bank) ≡ live (bank_changes p first bank)
    turned_changes =
        bank_same (IsBeside to (to + 8)) p filled left (other bank) place_filled
        (λ i from up. inr (omega arith)) agrees ∙ filled_changes

    turned_map : map_of p left (other bank) ≡ map_of p first bank
    turned_map =
        map_is p left (other bank) ∙ ap (map_after no_keys) turned_changes
        ∙ live_map (bank_changes p first bank) ∙ sym (map_is p first bank)

    turned_keys : keys_in p left ≡ keys_in p first
    turned_keys =
        keys_active p left (other bank) turned_active ∙ ap (λ (m : Map). Some m) turned_map
        ∙ sym (keys_active p first bank knows.active)

  header_torn : (left : List ℕ) → Torn filled header left
      → Agrees (IsBeside (bank_at p (other bank)) (bank_at p (other bank) + 8)) filled left
  header_torn left torn =
      let end : end_of header ≡ bank_at p (other bank) + 8 = omega (arith, length_header (g + 1)) in
      subst (λ (e : ℕ). Agrees (IsBeside (bank_at p (other bank)) e) filled left) end
      (within_of_torn filled left header torn).same

  -- the header was interrupted: the next generation, or one by chance
  by_header : (left : List ℕ) → LeftAfter first (begin ∷ (middle ++ header ∷ [])) left
      → Torn filled header left → (found : ℕ) → mark_in p left (other bank) ≡ Some found
      → (keys_in p left ≡ keys_in p first) ⊎ ChanceIn p first (begin ∷ (middle ++ header ∷ [])) left
  by_header left after torn found is = elim (cases_eq found (g + 1)) [
    | inl next_one ↦ inl (turned_keys left (spares left after)
        (is ∙ ap (λ (n : ℕ). Some n) next_one) (header_torn left torn))
    | inr differs ↦ inr (record {
      made = begin ∷ middle;
      step = header;
      rest = [];
      split = refl;
      torn = torn;
      chance = record {
        bank = other bank;
        here = refl;
        generation = found;
        matches = is;
        unknown = λ known. differs (known ∙ header_number (g + 1) is_generation.most);
      };
    })
  ]

  -- a header that is neither erased nor as before
  by_chance : (left : List ℕ) → LeftAfter first (begin ∷ (middle ++ header ∷ [])) left → (found : ℕ)
      → mark_in p left (other bank) ≡ Some found → (¬ (mark_in p first (other bank) ≡ Some found))
      → (keys_in p left ≡ keys_in p first) ⊎ ChanceIn p first (begin ∷ (middle ++ header ∷ [])) left
  by_chance left after found is unknown =
      elim (left_cases first begin (middle ++ header ∷ []) left after) [
        | inl same ↦ absurd (unknown (ap (λ (f : List ℕ). mark_in p f (other bank)) (sym same) ∙ is))
        | inr more ↦ elim more [
          | inl torn ↦
              let sector : to / 4096 * 4096 ≡ to = omega (arith, begins) in
              inr (record {
                made = [];
                step = begin;
                rest = middle ++ header ∷ [];
                split = refl;
                torn = torn;
                chance = record { bank = other bank; here = sector; generation = found; matches = is; unknown = unknown };
              })
          | inr later ↦ elim (left_append (applied first begin) middle (header ∷ []) left later) [
            | inl early ↦ inl (same_keys_in p first left bank g knows (spares left after) (inl (no_mark left early)))
            | inr late ↦ elim (left_cases filled header [] left late) [
              | inl same ↦ inl (same_keys_in p first left bank g knows (spares left after)
                  (inl (ap (λ (f : List ℕ). mark_in p f (other bank)) same
                  ∙ no_mark filled (left_end (applied first begin) middle))))
              | inr last ↦ elim last [
                | inl torn ↦ by_header left after torn found is
                | inr done ↦ by_header left after (subst (λ (f : List ℕ). Torn filled header f)
                    (sym (left_none (applied filled header) left done)) (torn_applied filled header)) found is
              ]
            ]
          ]
        ]
      ]

  parts_left : (left : List ℕ) → LeftAfter first (begin ∷ (middle ++ header ∷ [])) left
      → (keys_in p left ≡ keys_in p first) ⊎ ChanceIn p first (begin ∷ (middle ++ header ∷ [])) left
  parts_left left after = elim (mark_cases (mark_in p left (other bank)) (mark_in p first (other bank))) [
    | inl none ↦ inl (same_keys_in p first left bank g knows (spares left after) (inl none))
    | inr more ↦ elim more [
      | inl same ↦ inl (same_keys_in p first left bank g knows (spares left after) (inr same))
      | inr chance ↦ by_chance left after chance.0 chance.1 chance.2
    ]
  ]

  -- at every moment the keys stay, unless a header matches by chance
  pub exchange_left : (left : List ℕ) → LeftAfter first (exchange_steps p first bank g) left
      → (keys_in p left ≡ keys_in p first) ⊎ ChanceIn p first (exchange_steps p first bank g) left
  exchange_left left =
      subst (λ (steps : List Step). LeftAfter first steps left
      → (keys_in p left ≡ keys_in p first) ⊎ ChanceIn p first steps left) (sym parts) (parts_left left)

  -- ---- behind the exchange

  abbrev pub exchanged : List ℕ
  exchanged = after_steps first (exchange_steps p first bank g)

  exchanged_is : after_steps first (exchange_steps p first bank g) ≡ applied filled header
  exchanged_is = ap (after_steps first) parts ∙ after_steps_append (applied first begin) middle (header ∷ [])

  done_left : LeftAfter first (begin ∷ (middle ++ header ∷ [])) (applied filled header)
  done_left = subst (λ (f : List ℕ). LeftAfter first (begin ∷ (middle ++ header ∷ [])) f)
      (after_steps_append (applied first begin) middle (header ∷ []))
      (left_end first (begin ∷ (middle ++ header ∷ [])))

  done_mark : mark_in p (applied filled header) (other bank) ≡ Some (g + 1)
  done_mark =
      header_done p filled (other bank) (g + 1)
      (omega (arith, length-after_steps (applied first begin) middle, length_applied first begin, inside, knows.place.some))
      (header_blank filled (left_end (applied first begin) middle)) is_generation

  done_agrees : Agrees (IsBeside (bank_at p (other bank)) (bank_at p (other bank) + 8)) filled (applied filled header)
  done_agrees = header_torn (applied filled header) (torn_applied filled header)

  done_known : Knows p (applied filled header) (other bank) (g + 1)
  done_known = record {
    place = subst (IsPlace p) (sym (length_applied filled header
        ∙ length-after_steps (applied first begin) middle ∙ length_applied first begin)) knows.place;
    active = turned_active (applied filled header) (spares (applied filled header) done_left) done_mark done_agrees;
    mark = done_mark;
  }

  -- the other bank is active, with the next generation
  pub exchanged_known : Knows p exchanged (other bank) (g + 1)
  exchanged_known = subst (λ (f : List ℕ). Knows p f (other bank) (g + 1)) (sym exchanged_is) done_known

  -- its map is the map of this one
  pub exchanged_map : map_of p exchanged (other bank) ≡ map_of p first bank
  exchanged_map =
      ap (λ (f : List ℕ). map_of p f (other bank)) exchanged_is
      ∙ turned_map (applied filled header) (spares (applied filled header) done_left) done_mark done_agrees

  -- and behind the live records its slots are free
  pub exchanged_free : Erased (slot_at p (other bank) (live_in p first bank)) (to + p.half) exchanged
  exchanged_free i from up =
      ap (λ (f : List ℕ). get_or f i 0) exchanged_is
      ∙ erased_agrees (IsBeside to (to + 8)) (slot_at p (other bank) (live_in p first bank)) (to + p.half)
      filled (applied filled header)
      (omega (arith, inside, length-after_steps (applied first begin) middle, length_applied first begin))
      (λ i low high. inr (omega arith)) done_agrees filled_free i from up
