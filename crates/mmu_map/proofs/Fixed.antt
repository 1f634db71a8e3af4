-- What is fixed stays as it is, and leads to its flash page.
use Rattle.std.specs.Prelude.{◌≡◌, ◌⊎◌, ℕ, zero, suc, ◌+◌, ◌-◌, ◌*◌, ◌/◌, ◌<◌, ◌≤◌, List, [], ◌∷◌, length, replicate, Option, Some, None, Result, Ok, Err, refl}
use Rattle.std.proofs.Common.{◌∙◌, sym, ap, subst, inl, inr, arith}
use Rattle.std.proofs.Math.ListN.{length-replicate}
use Rattle.std.proofs.lemmas.Bool.{cases_lt}
use Rattle.image_layout.specs.declared.space.Space.{Space}
use Rattle.image_layout.specs.declared.space.Space.TheVariants.{Data, Code}
use Rattle.mmu_map.specs.declared.place.Place.{Place}
use Rattle.mmu_map.specs.declared.page_use.PageUse.{PageUse}
use Rattle.mmu_map.specs.declared.page_use.PageUse.TheVariants.{Free, Fixed, First, Later}
use Rattle.mmu_map.specs.declared.runs.NoPages.{NoPages}
use Rattle.mmu_map.specs.declared.runs.NotMapped.{NotMapped}
use Rattle.mmu_map.specs.Place.{place, place_of, pages_in, address_of}
use Rattle.mmu_map.specs.Runs.{use_at, run_length, AreFree, IsLowest, IsRunAt, fixed_run, mapped_run}
use Rattle.mmu_map.specs.Map.{Map, IsWhole, IsForGood, IsFixedAt, uses_in, use_in, translated, with_run_at, AreFreeFrom, IsFreeRun, IsRun, IsRunIn, IsMapAnswer, after_map, IsUnmapAnswer, after_unmap, fixed, mapped, freed}
use Rattle.mmu_map.specs.Calls.{Call, FixedAt, MappedAt, FreedAt, CanMake, CanMakeAll, after_call, after_calls, within_run}
use Rattle.mmu_map.proofs.Whole.{length_fixed, length_mapped}
use Rattle.mmu_map.proofs.Places.{place_in, lies, starts_page, place_of_address}
use Rattle.mmu_map.proofs.Empty.{page_start}
use Rattle.mmu_map.proofs.Addresses.{put, within_cases, inside_is, outside_is, step_fixed, steps}

-- pages in use otherwise are not fixed
not_free : (used : PageUse) → used ≡ Free → ¬ IsForGood used
not_free used is fixed = subst IsForGood is fixed

not_first : (used : PageUse) (f n : ℕ) → used ≡ First f n → ¬ IsForGood used
not_first used f n is fixed = subst IsForGood is fixed

not_later : (used : PageUse) (f : ℕ) → used ≡ Later f → ¬ IsForGood used
not_later used f is fixed = subst IsForGood is fixed

module _ (m : Map) (space : Space) (first n at : ℕ) (good : IsWhole m)
    (within : first + n ≤ length (uses_in m space)) (starts : at ≡ address_of space first) where
  -- the page of an address in so many pages
  use_there : (a : ℕ) → at ≤ a → a < at + n * 65536
      → use_in m (place_of a) ≡ use_at (uses_in m space) (first + (a - at) / 65536)
  use_there a from to =
      let sized : length (uses_in m space) ≡ pages_in space = good.many space in
      let k = (a - at) / 65536 in
      let lower : k * 65536 ≤ a - at = omega arith in
      let upper : a - at < k * 65536 + 65536 = omega arith in
      ap (λ (p : Option Place). use_in m p)
      (place_in space (first + k) a (omega arith) (omega arith) (omega arith))

  module _ (others : (k : ℕ) → k < n → ¬ IsForGood (use_at (uses_in m space) (first + k))) where
    -- where none of these pages is fixed, one that is lies beside them
    beside : (a : ℕ) → IsFixedAt m a → (a < at) ⊎ (at + n * 65536 ≤ a)
    beside a is_fixed = elim (within_cases at n a None None) [
      | inl there ↦
          absurd (others ((a - at) / 65536) (omega (arith, there.0, there.1))
          (subst IsForGood (use_there a there.0 there.1) is_fixed))
      | inr apart ↦ apart.0
    ]

    -- so it stays as it is where they are replaced
    stays_put : (run : List PageUse) → length run ≡ n → (after : Map)
        → put m space first run ≡ after → (a : ℕ) → IsFixedAt m a
        → use_in after (place_of a) ≡ use_in m (place_of a)
    stays_put run many after is a is_fixed =
        ap (λ (k : Map). use_in k (place_of a)) (sym is)
        ∙ outside_is m space first n at run many good within starts a (beside a is_fixed)

-- free pages are not fixed
free_others : (uses : List PageUse) (first n : ℕ) → AreFree uses first n → (k : ℕ) → k < n
    → ¬ IsForGood (use_at uses (first + k))
free_others uses first n free k inside =
    not_free (use_at uses (first + k)) (free.free (first + k) (omega arith) (omega arith))

-- nor are those of a run
run_others : (m : Map) (space : Space) (first n : ℕ) → IsWhole m
    → IsRunAt (uses_in m space) first n → (k : ℕ) → k < n
    → ¬ IsForGood (use_at (uses_in m space) (first + k))
run_others m space first n good run zero inside =
    let e : first + 0 ≡ first = omega arith in
    not_first (use_at (uses_in m space) (first + 0)) run.0 n
    (ap (λ (page : ℕ). use_at (uses_in m space) page) e ∙ run.1)
run_others m space first n good run (suc k) inside =
    let later = (good.whole space).later first n run.0 (first + suc k) run.1 (omega arith) (omega
    arith) in
    not_later (use_at (uses_in m space) (first + suc k)) later.0 later.1

stays_free : (m : Map) (at n : ℕ) (run : List PageUse) (after : Map) → IsWhole m
    → IsFreeRun m at n → length run ≡ n → with_run_at m (place_of at) run ≡ after → (a : ℕ)
    → IsFixedAt m a → use_in after (place_of a) ≡ use_in m (place_of a)
stays_free m at n run after good free many is a is_fixed = elim (lies at) [
  | inl none ↦ absurd (subst (λ (p : Option Place). AreFreeFrom m p n) none free.free)
  | inr l ↦
      let there : AreFree (uses_in m l.space) l.page n =
      subst (λ (p : Option Place). AreFreeFrom m p n) l.is free.free in
      stays_put m l.space l.page n at good there.within
      (starts_page l.space l.page at free.page_start l.from l.to)
      (free_others (uses_in m l.space) l.page n there) run many after
      (ap (λ (p : Option Place). with_run_at m p run) (sym l.is) ∙ is) a is_fixed
]

stays_freed : (m : Map) (at n : ℕ) → IsWhole m → IsRun m at n → (a : ℕ) → IsFixedAt m a
    → use_in (freed m at n) (place_of a) ≡ use_in m (place_of a)
stays_freed m at n good is_run a is_fixed = elim (lies at) [
  | inl none ↦ absurd (subst (λ (p : Option Place). IsRunIn m p n) none is_run.run)
  | inr l ↦
      let there : IsRunIn m (Some (place l.space l.page)) n =
      subst (λ (p : Option Place). IsRunIn m p n) l.is is_run.run in
      stays_put m l.space l.page n at good
      ((good.whole l.space).within l.page n there.0 there.1)
      (starts_page l.space l.page at is_run.page_start l.from l.to)
      (run_others m l.space l.page n good there) (replicate n Free) (length-replicate n Free)
      (freed m at n)
      (ap (λ (p : Option Place). with_run_at m p (replicate n Free)) (sym l.is)) a is_fixed
]

-- a page that is fixed stays as it is
pub stays : (m : Map) (call : Call) → IsWhole m → CanMake m call → (a : ℕ) → IsFixedAt m a
    → use_in (after_call m call) (place_of a) ≡ use_in m (place_of a)
stays m (FixedAt at f n) good free a is_fixed =
    stays_free m at n (fixed_run f n) (fixed m at f n) good free (length_fixed f n) refl a is_fixed
stays m (MappedAt at f n) good free a is_fixed =
    stays_free m at n (mapped_run f n) (mapped m at f n) good free (length_mapped f n) refl a
    is_fixed
stays m (FreedAt at n) good is_run a is_fixed = stays_freed m at n good is_run a is_fixed

-- whatever is fixed, mapped and freed
pub stays_all : (calls : List Call) (m : Map) → IsWhole m → CanMakeAll m calls → (a : ℕ)
    → IsFixedAt m a → use_in (after_calls m calls) (place_of a) ≡ use_in m (place_of a)
stays_all [] m good can a is_fixed = refl
stays_all (call ∷ calls) m good can a is_fixed =
    let same = stays m call good can.0 a is_fixed in
    stays_all calls (after_call m call) (steps m call good can.0).good can.1 a
    (subst IsForGood (sym same) is_fixed) ∙ same

-- what keeps each page that is fixed, and leaves a whole map
pub record KeepsFixed (m after : Map) : Type 0 where
  pub good : IsWhole after
  pub same : (a : ℕ) → IsFixedAt m a → use_in after (place_of a) ≡ use_in m (place_of a)

pub keeps_nothing_new : (m : Map) → IsWhole m → KeepsFixed m m
keeps_nothing_new m good = record { good = good; same = λ a is_fixed. refl }

pub keeps_then : (m middle after : Map) → KeepsFixed m middle → KeepsFixed middle after
    → KeepsFixed m after
keeps_then m middle after first later = record {
  good = later.good;
  same = λ a is_fixed. later.same a (subst IsForGood (sym (first.same a is_fixed)) is_fixed)
      ∙ first.same a is_fixed;
}

pub keeps : (m : Map) (call : Call) → IsWhole m → CanMake m call → KeepsFixed m (after_call m call)
keeps m call good can = record {
  good = (steps m call good can).good;
  same = stays m call good can;
}

some_pages : (space : Space) → 1 ≤ pages_in space
some_pages Data = omega arith
some_pages Code = omega arith

-- a run that was found is free at its address
free_there : (m : Map) (space : Space) (page n : ℕ) → IsWhole m
    → IsLowest (uses_in m space) n page → IsFreeRun m (address_of space page) n
free_there m space page n good found = record {
  page_start = page_start space page;
  free = subst (λ (p : Option Place). AreFreeFrom m p n)
      (sym (place_of_address space page (elim (cases_lt 0 n) [
        | inl some ↦ omega (arith, good.many space, found.free.within)
        | inr none ↦
            omega (
              arith,
              some_pages space,
              found.lowest 0 (record {
                within = omega arith;
                free = λ i from to. absurd (omega arith);
              }),
            )
      ]))) found.free;
}

-- so do the answers of `map` and `unmap`
pub map_keeps : (m : Map) (f n : ℕ) (space : Space) (answer : Result ℕ NoPages) → IsWhole m
    → IsMapAnswer m n space answer → KeepsFixed m (after_map m f n answer)
map_keeps m f n space (Ok at) good found =
    keeps m (MappedAt at f n) good (subst (λ (a : ℕ). IsFreeRun m a n) (sym found.1)
    (free_there m space found.0 n good found.2))
map_keeps m f n space (Err e) good found = keeps_nothing_new m good

pub unmap_keeps : (m : Map) (at : ℕ) (answer : Result (Unit {0}) NotMapped) → IsWhole m
    → IsUnmapAnswer m at answer → KeepsFixed m (after_unmap m at answer)
unmap_keeps m at (Ok u) good found =
    subst (λ (n : ℕ). KeepsFixed m (freed m at n)) (many m (place_of at) found.0 found.1.run)
    (keeps m (FreedAt at found.0) good found.1) where
      many : (m : Map) (p : Option Place) (n : ℕ) → IsRunIn m p n → n ≡ run_length (use_in m p)
      many m None n run = absurd run
      many m (Some p) n run = sym (ap run_length run.1)
unmap_keeps m at (Err e) good found = keeps_nothing_new m good

-- what stands in a run that is fixed
fixed_use : (f n k : ℕ) → k < n → use_at (fixed_run f n) k ≡ Fixed (f + k)
fixed_use f zero k inside = absurd (omega arith)
fixed_use f (suc n) zero inside = ap (λ (i : ℕ). Fixed i) (omega arith)
fixed_use f (suc n) (suc k) inside =
    let e : f + 1 + k ≡ f + suc k = omega arith in
    fixed_use (f + 1) n k (omega arith) ∙ ap (λ (i : ℕ). Fixed i) e

-- each address of pages that were just fixed lies in a fixed page
pub fixed_there : (m : Map) (at f n a : ℕ) → IsWhole m → IsFreeRun m at n → at ≤ a
    → a < at + n * 65536 → IsFixedAt (fixed m at f n) a
fixed_there m at f n a good free from to = elim (lies at) [
  | inl none ↦ absurd (subst (λ (p : Option Place). AreFreeFrom m p n) none free.free)
  | inr l ↦
      let there : AreFree (uses_in m l.space) l.page n =
      subst (λ (p : Option Place). AreFreeFrom m p n) l.is free.free in
      let same : put m l.space l.page (fixed_run f n) ≡ fixed m at f n =
      ap (λ (p : Option Place). with_run_at m p (fixed_run f n)) (sym l.is) in
      let is : use_in (fixed m at f n) (place_of a) ≡ Fixed (f + (a - at) / 65536) =
      ap (λ (k : Map). use_in k (place_of a)) (sym same)
      ∙ inside_is m l.space l.page n at (fixed_run f n) (length_fixed f n) good there.within
      (starts_page l.space l.page at free.page_start l.from l.to) a from to
      ∙ fixed_use f n ((a - at) / 65536) (omega arith) in
      subst IsForGood (sym is) tt
]

-- and leads to its flash page
pub leads_there : (m : Map) (at f n a : ℕ) → IsWhole m → IsFreeRun m at n → at ≤ a
    → a < at + n * 65536 → translated (fixed m at f n) a ≡ Some (f * 65536 + (a - at))
leads_there m at f n a good free from to =
    (step_fixed m at f n good free).leads a
    ∙ (elim (within_cases at n a (Some (f * 65536 + (a - at))) (translated m a)) as
    (λ _. within_run at n a (Some (f * 65536 + (a - at))) (translated m a)
    ≡ Some (f * 65536 + (a - at))) [
      | inl there ↦ there.2
      | inr apart ↦ absurd (elim apart.0 [
        | inl low ↦ omega arith
        | inr past ↦ omega arith
      ])
    ])
