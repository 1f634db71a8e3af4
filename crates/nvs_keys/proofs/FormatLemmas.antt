-- The format of a store: none, the empty map, or a header that matches by chance.
use Rattle.std.proofs.Common.{◌≡◌, ◌⊎◌, ℕ, ◌+◌, ◌-◌, ◌*◌, ◌/◌, List, [], ◌∷◌, ◌++◌, length, get_or, Option, None, Some, refl, sym, ap, ◌∙◌, subst, inl, inr, arith}
use Rattle.std.specs.Prelude.{Bool, true, false, cond, nat_lt}
use Rattle.std.proofs.lemmas.Bool.{cases_eq}
use Rattle.nor_device.specs.declared.step.Step.{Step}
use Rattle.nor_device.specs.declared.step.Step.TheVariants.{Erase, Program}
use Rattle.nor_device.specs.Flash.{after_steps, applied, end_of, start_of}
use Rattle.nor_device.specs.Torn.{Torn}
use Rattle.nor_device.proofs.FlashLaws.{after_steps_append, length-after_steps, length_applied}
use Rattle.nor_device.proofs.TornLaws.{torn_applied}
use Rattle.crash_images.specs.Agrees.{Agrees, IsBeside, StepsWithin}
use Rattle.crash_images.specs.Crash.{LeftAfter}
use Rattle.crash_images.proofs.AgreesLaws.{left_agrees, within_of_torn}
use Rattle.crash_images.proofs.LeftLaws.{left_append, left_cases, left_end, left_none}
use Rattle.flash_steps.specs.Steps.{erase_steps}
use Rattle.nvs_keys.specs.declared.bank.Bank.TheVariants.{First, Second}
use Rattle.nvs_keys.specs.Changes.{Map, map_after, no_keys}
use Rattle.nvs_keys.specs.declared.place.Place.{Place}
use Rattle.nvs_keys.specs.Banks.{IsGeneration, IsPlace, active_in, active_of, bank_at, header_bytes, keys_in, keys_of, map_of, mark_in, records}
use Rattle.nvs_keys.specs.Steps.{format_steps}
use Rattle.nvs_keys.specs.Left.{ChanceIn, IsBeforeOrAfter, Knows}
use Rattle.nvs_keys.proofs.PutLemmas.{Erased, changes_blank, erased_agrees}
use Rattle.nvs_keys.proofs.CopyLemmas.{steps_append, steps_wider}
use Rattle.nvs_keys.proofs.ActiveLemmas.{active_alone, header_number, keys_active, length_header, map_is, mark_blank, mark_same, records_fill}
use Rattle.nvs_keys.proofs.ExchangeLemmas.{erase_first, erase_within, erased_by, header_done, sector_erased}

-- no bank is active where neither header matches, and then alone
marks_none : (a b : Option ℕ) → active_of a b ≡ None → (a ≡ None) × (b ≡ None)
marks_none None None none = (refl, refl)
marks_none None (Some b) none = absurd (cc)
marks_none (Some a) None none = absurd (cc)
marks_none (Some a) (Some b) none = absurd (some (nat_lt a b) none)
  where
    some : (t : Bool)
        → cond t (Some Second) (Some First) ≡ None → ⊥
    some true e = cc
    some false e = cc

keys_none : (p : Place) (flash : List ℕ) → mark_in p flash First ≡ None → mark_in p flash Second ≡ None
    → keys_in p flash ≡ None
keys_none p flash one two = λ i. keys_of p flash (active_of (one i) (two i))

module _ (p : Place) (first : List ℕ) (place : IsPlace p (length first)) (none : active_in p first ≡ None) where
  -- the erase of the second bank's first sector, that of the first bank's, the others, and the header
  abbrev one : Step
  one = Erase (bank_at p Second / 4096)

  abbrev two : Step
  two = Erase (bank_at p First / 4096)

  abbrev others : List Step
  others = erase_steps (bank_at p First + 4096) (p.half - 4096)

  abbrev header : Step
  header = Program (bank_at p First) (header_bytes 1)

  abbrev parted : List Step
  parted = one ∷ two ∷ (others ++ header ∷ [])

  parts : format_steps p ≡ parted
  parts = ap (λ (steps : List Step). one ∷ (steps ++ header ∷ []))
      (erase_first (bank_at p First) p.half place.begins place.some)

  is_generation : IsGeneration 1
  is_generation = record { some = omega arith; most = omega arith }

  first_none : mark_in p first First ≡ None
  first_none = (marks_none (mark_in p first First) (mark_in p first Second) none).0

  second_none : mark_in p first Second ≡ None
  second_none = (marks_none (mark_in p first First) (mark_in p first Second) none).1

  keys_before : keys_in p first ≡ None
  keys_before = ap (keys_of p first) none

  -- ---- the first erase

  abbrev erased_one : List ℕ
  erased_one = applied first one

  long_one : length erased_one ≡ length first
  long_one = length_applied first one

  -- the header of the first bank stays
  first_stays : (left : List ℕ) → Torn first one left → mark_in p left First ≡ None
  first_stays left torn =
      mark_same (IsBeside (start_of one) (end_of one)) p first left First
      (λ i from up. inl (omega (arith, place.whole, place.some, place.begins)))
      (within_of_torn first left one torn).same ∙ first_none

  torn_one : (left : List ℕ) → Torn first one left → (found : Option ℕ) → mark_in p left Second ≡ found
      → (keys_in p left ≡ None) ⊎ ChanceIn p first parted left
  torn_one left torn None is = inl (keys_none p left (first_stays left torn) is)
  torn_one left torn (Some found) is =
      let sector : bank_at p Second / 4096 * 4096 ≡ bank_at p Second = omega (arith, place.begins, place.whole) in
      inr (record {
        made = [];
        step = one;
        rest = two ∷ (others ++ header ∷ []);
        split = refl;
        torn = torn;
        chance = record {
          bank = Second;
          here = sector;
          generation = found;
          matches = is;
          unknown = λ known. absurd (cc (known, second_none));
        };
      })

  -- ---- the other steps, all of which lie in the first bank

  others_within : StepsWithin (p.at + 4096) (p.at + p.half) others
  others_within =
      steps_wider (p.at + 4096) (p.at + 4096 + (p.half - 4096)) (p.at + 4096) (p.at + p.half) others
      (omega arith) (omega (arith, place.some))
      (erase_within (p.at + 4096) (p.half - 4096) (omega (arith, place.begins)) (omega (arith, place.whole, place.some)))

  later_within : StepsWithin p.at (p.at + p.half) (two ∷ (others ++ header ∷ []))
  later_within = (
    record { from = omega (arith, place.begins); to = omega (arith, place.begins, place.some) },
    steps_append p.at (p.at + p.half) others (header ∷ [])
        (steps_wider (p.at + 4096) (p.at + p.half) p.at (p.at + p.half) others (omega arith) (omega arith) others_within)
        (record { from = omega arith; to = omega (arith, length_header 1, place.some) }, tt),
  )

  later_agrees : (left : List ℕ) → LeftAfter erased_one (two ∷ (others ++ header ∷ [])) left
      → Agrees (IsBeside p.at (p.at + p.half)) erased_one left
  later_agrees left after =
      left_agrees p.at (p.at + p.half) erased_one (two ∷ (others ++ header ∷ [])) left later_within after

  -- the header of the second bank stays erased
  second_stays : (left : List ℕ) → LeftAfter erased_one (two ∷ (others ++ header ∷ [])) left
      → mark_in p left Second ≡ None
  second_stays left after =
      mark_same (IsBeside p.at (p.at + p.half)) p erased_one left Second (λ i from up. inr from) (later_agrees left after)
      ∙ mark_blank p erased_one Second (omega (arith, long_one, place.inside, place.some))
      (λ i from up. sector_erased first (bank_at p Second) (omega (arith, place.begins, place.whole))
      (omega (arith, place.inside, place.some)) i from (omega arith))

  -- behind the erases
  abbrev cleared : List ℕ
  cleared = after_steps (applied erased_one two) others

  cleared_is : after_steps erased_one (erase_steps p.at p.half) ≡ cleared
  cleared_is = ap (after_steps erased_one) (erase_first p.at p.half place.begins place.some)

  long_cleared : length cleared ≡ length first
  long_cleared =
      length-after_steps (applied erased_one two) others ∙ length_applied erased_one two ∙ long_one

  all_erased : Erased p.at (p.at + p.half) cleared
  all_erased i from up =
      ap (λ (f : List ℕ). get_or f i 0) (sym cleared_is)
      ∙ erased_by p.at p.half erased_one place.begins place.whole (omega (arith, long_one, place.inside)) i from up

  -- the header of the first bank is erased from its first erase on
  first_blank : (left : List ℕ) → LeftAfter (applied erased_one two) others left → mark_in p left First ≡ None
  first_blank left after =
      let agrees = left_agrees (p.at + 4096) (p.at + p.half) (applied erased_one two) others left others_within after in
      let long : length (applied erased_one two) ≡ length first = length_applied erased_one two ∙ long_one in
      mark_blank p left First (omega (arith, agrees.same_length, long, place.inside, place.some))
      (erased_agrees (IsBeside (p.at + 4096) (p.at + p.half)) p.at (p.at + 8) (applied erased_one two) left
      (omega (arith, long, place.inside, place.some)) (λ i from up. inl (omega arith)) agrees
      (λ i from up. sector_erased erased_one p.at place.begins (omega (arith, long_one, place.inside, place.some)) i from (omega arith)))

  -- ---- the header of the first bank

  -- with the header of generation 1 the store is empty
  started_map : (left : List ℕ) → Agrees (IsBeside p.at (p.at + 8)) cleared left → map_of p left First ≡ no_keys
  started_map left agrees =
      map_is p left First
      ∙ ap (map_after no_keys) (changes_blank (records p) (p.at + 64) left
      (erased_agrees (IsBeside p.at (p.at + 8)) (p.at + 64) (p.at + 64 + 64 * records p) cleared left
      (omega (arith, records_fill p (length first) place, long_cleared, place.inside)) (λ i from up. inr (omega arith)) agrees
      (λ i from up. all_erased i (omega arith) (omega (arith, records_fill p (length first) place)))))

  started_keys : (left : List ℕ) → mark_in p left First ≡ Some 1 → mark_in p left Second ≡ None
      → Agrees (IsBeside p.at (p.at + 8)) cleared left → keys_in p left ≡ Some no_keys
  started_keys left own their agrees =
      keys_active p left First (active_alone (mark_in p left) First 1 own their)
      ∙ ap (λ (m : Map). Some m) (started_map left agrees)

  header_torn : (left : List ℕ) → Torn cleared header left → Agrees (IsBeside p.at (p.at + 8)) cleared left
  header_torn left torn =
      let end : end_of header ≡ p.at + 8 = omega (arith, length_header 1) in
      subst (λ (e : ℕ). Agrees (IsBeside p.at e) cleared left) end (within_of_torn cleared left header torn).same

  abbrev Left : List ℕ → Type 0
  Left left = (keys_in p left ≡ None) ⊎ ((keys_in p left ≡ Some no_keys) ⊎ ChanceIn p first parted left)

  by_header : (left : List ℕ) → mark_in p left Second ≡ None → Torn cleared header left → (found : ℕ)
      → mark_in p left First ≡ Some found → Left left
  by_header left their torn found is = elim (cases_eq found 1) [
    | inl same ↦ inr (inl (started_keys left (is ∙ ap (λ (n : ℕ). Some n) same) their (header_torn left torn)))
    | inr differs ↦ inr (inr (record {
      made = one ∷ two ∷ others;
      step = header;
      rest = [];
      split = refl;
      torn = torn;
      chance = record {
        bank = First;
        here = refl;
        generation = found;
        matches = is;
        unknown = λ known. differs (known ∙ header_number 1 is_generation.most);
      };
    }))
  ]

  -- where the header of the first bank matches
  by_first : (left : List ℕ) → LeftAfter erased_one (two ∷ (others ++ header ∷ [])) left → (found : ℕ)
      → mark_in p left First ≡ Some found → Left left
  by_first left after found is =
      let their : mark_in p left Second ≡ None = second_stays left after in
      let same : mark_in p erased_one First ≡ None = first_stays erased_one (torn_applied first one) in
      elim (left_cases erased_one two (others ++ header ∷ []) left after) [
        | inl still ↦ inl (keys_none p left (ap (λ (f : List ℕ). mark_in p f First) still ∙ same) their)
        | inr more ↦ elim more [
          | inl torn ↦
              let sector : bank_at p First / 4096 * 4096 ≡ bank_at p First = omega (arith, place.begins) in
              inr (inr (record {
                made = one ∷ [];
                step = two;
                rest = others ++ header ∷ [];
                split = refl;
                torn = torn;
                chance = record {
                  bank = First;
                  here = sector;
                  generation = found;
                  matches = is;
                  unknown = λ known. absurd (cc (known, first_none));
                };
              }))
          | inr later ↦ elim (left_append (applied erased_one two) others (header ∷ []) left later) [
            | inl early ↦ inl (keys_none p left (first_blank left early) their)
            | inr late ↦ elim (left_cases cleared header [] left late) [
              | inl still ↦ inl (keys_none p left (ap (λ (f : List ℕ). mark_in p f First) still
                  ∙ first_blank cleared (left_end (applied erased_one two) others)) their)
              | inr last ↦ elim last [
                | inl torn ↦ by_header left their torn found is
                | inr done ↦ by_header left their (subst (λ (f : List ℕ). Torn cleared header f)
                    (sym (left_none (applied cleared header) left done)) (torn_applied cleared header)) found is
              ]
            ]
          ]
        ]
      ]

  by_later : (left : List ℕ) → LeftAfter erased_one (two ∷ (others ++ header ∷ [])) left → (found : Option ℕ)
      → mark_in p left First ≡ found → Left left
  by_later left after None is = inl (keys_none p left is (second_stays left after))
  by_later left after (Some found) is = by_first left after found is

  parted_left : (left : List ℕ) → LeftAfter first parted left → Left left
  parted_left left after = elim (left_cases first one (two ∷ (others ++ header ∷ [])) left after) [
    | inl same ↦ inl (ap (keys_in p) same ∙ keys_before)
    | inr more ↦ elim more [
      | inl torn ↦ elim (torn_one left torn (mark_in p left Second) refl) [ inl before ↦ inl before | inr chance ↦ inr (inr chance) ]
      | inr later ↦ by_later left later (mark_in p left First) refl
    ]
  ]

  -- at every moment there are no keys, or the map is empty, unless a header matches by chance
  pub format_left : (left : List ℕ) → LeftAfter first (format_steps p) left
      → IsBeforeOrAfter p first (format_steps p) (Some no_keys) left
  format_left left =
      subst (λ (steps : List Step). LeftAfter first steps left → IsBeforeOrAfter p first steps (Some no_keys) left)
      (sym parts) (λ after. named (parted_left left after))
    where
      named : Left left → IsBeforeOrAfter p first parted (Some no_keys) left
      named (inl before) = inl (before ∙ sym keys_before)
      named (inr more) = inr more

  -- ---- behind the format

  abbrev pub formatted : List ℕ
  formatted = after_steps first (format_steps p)

  formatted_is : after_steps first (format_steps p) ≡ applied cleared header
  formatted_is = ap (after_steps first) parts ∙ after_steps_append (applied erased_one two) others (header ∷ [])

  done_left : LeftAfter erased_one (two ∷ (others ++ header ∷ [])) (applied cleared header)
  done_left = subst (λ (f : List ℕ). LeftAfter erased_one (two ∷ (others ++ header ∷ [])) f)
      (after_steps_append (applied erased_one two) others (header ∷ []))
      (left_end erased_one (two ∷ (others ++ header ∷ [])))

  done_mark : mark_in p (applied cleared header) First ≡ Some 1
  done_mark =
      header_done p cleared First 1 (omega (arith, long_cleared, place.inside, place.some))
      (λ i from up. all_erased i from (omega (arith, place.some))) is_generation

  -- the store is empty
  pub format_done : keys_in p formatted ≡ Some no_keys
  format_done =
      ap (keys_in p) formatted_is
      ∙ started_keys (applied cleared header) done_mark (second_stays (applied cleared header) done_left)
      (header_torn (applied cleared header) (torn_applied cleared header))

  -- and its first bank is active, with generation 1
  pub format_known : Knows p formatted First 1
  format_known = subst (λ (f : List ℕ). Knows p f First 1) (sym formatted_is) (record {
    place = subst (IsPlace p) (sym (length_applied cleared header ∙ long_cleared)) place;
    active = active_alone (mark_in p (applied cleared header)) First 1 done_mark (second_stays (applied cleared header) done_left);
    mark = done_mark;
  })
