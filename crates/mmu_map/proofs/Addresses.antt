-- Where each address leads after a call.
use Rattle.std.specs.Prelude.{◌≡◌, ◌⊎◌, ℕ, zero, suc, ◌+◌, ◌-◌, ◌*◌, ◌/◌, ◌%◌, ◌<◌, ◌≤◌, List, [], ◌∷◌, length, replicate, Option, Some, None, true, false, refl, nat_le, nat_lt, ◌&&◌}
use Rattle.std.proofs.Common.{◌∙◌, sym, ap, subst, inl, inr, arith}
use Rattle.std.proofs.Math.ListN.{length-replicate, get_or-replicate}
use Rattle.std.proofs.lemmas.Bool.{cases_lt}
use Rattle.std.proofs.lemmas.Bool.Decides.{nat_tests}
use Rattle.image_layout.specs.declared.space.Space.{Space}
use Rattle.image_layout.specs.declared.space.Space.TheVariants.{Data, Code}
use Rattle.mmu_map.specs.declared.place.Place.{Place}
use Rattle.mmu_map.specs.declared.page_use.PageUse.{PageUse}
use Rattle.mmu_map.specs.declared.page_use.PageUse.TheVariants.{Free}
use Rattle.mmu_map.specs.Place.{place, place_of, pages_in, address_of}
use Rattle.mmu_map.specs.Runs.{use_at, AreFree, AreWhole, fixed_run, mapped_run, with_run, flash_page_of}
use Rattle.mmu_map.specs.Map.{Map, IsWhole, empty, uses_in, with_uses, use_in, translated, flash_address, AreFreeFrom, IsFreeRun, IsRun, IsRunIn, with_run_at, fixed, mapped, freed}
use Rattle.mmu_map.specs.Calls.{Call, FixedAt, MappedAt, FreedAt, CanMake, CanMakeAll, after_call, after_calls, within_run, leads_to, leads_after}
use Rattle.mmu_map.proofs.WithRun.{length_with, use_before, use_within, use_after}
use Rattle.mmu_map.proofs.Whole.{length_fixed, length_mapped, later_at, whole_none, free_none, fixed_whole, mapped_whole, freed_whole}
use Rattle.mmu_map.proofs.Places.{place_in, lies, starts_page}

-- the uses of a space that were replaced, and those of the other space
uses_same : (m : Map) (space : Space) (uses : List PageUse)
    → uses_in (with_uses m space uses) space ≡ uses
uses_same m Data uses = refl
uses_same m Code uses = refl

uses_by : (m : Map) (space other : Space) (uses : List PageUse)
    → (space ≡ other) ⊎ (uses_in (with_uses m space uses) other ≡ uses_in m other)
uses_by m Data Data uses = inl refl
uses_by m Data Code uses = inr refl
uses_by m Code Data uses = inr refl
uses_by m Code Code uses = inl refl

-- the map with a run in place of the pages from this one on
abbrev pub put : Map → Space → ℕ → List PageUse → Map
put m space first run = with_run_at m (Some (place space first)) run

-- an address lies in so many pages from another one on, or does not
pub within_cases : (at n a : ℕ) (there elsewhere : Option ℕ)
    → ((at ≤ a) × (a < at + n * 65536) × (within_run at n a there elsewhere ≡ there))
    ⊎ (((a < at) ⊎ (at + n * 65536 ≤ a)) × (within_run at n a there elsewhere ≡ elsewhere))
within_cases at n a there elsewhere = elim (cases_lt a at) [
  | inl low ↦
      let e : (nat_le at a && nat_lt a (at + n * 65536)) ≡ false = grind (arith, nat_tests) in
      inr (inl low, rw e refl)
  | inr from ↦ elim (cases_lt a (at + n * 65536)) [
    | inl to ↦
        let e : (nat_le at a && nat_lt a (at + n * 65536)) ≡ true = grind (arith, nat_tests) in
        inl (from, to, rw e refl)
    | inr past ↦
        let e : (nat_le at a && nat_lt a (at + n * 65536)) ≡ false = grind (arith, nat_tests) in
        inr (inr past, rw e refl)
  ]
]

module _ (m : Map) (space : Space) (first n at : ℕ) (run : List PageUse) (many : length run ≡ n)
    (good : IsWhole m) (within : first + n ≤ length (uses_in m space))
    (starts : at ≡ address_of space first) where
  fits : first + length run ≤ length (uses_in m space)
  fits = omega arith

  -- in the run
  pub inside_is : (a : ℕ) → at ≤ a → a < at + n * 65536
      → use_in (put m space first run) (place_of a) ≡ use_at run ((a - at) / 65536)
  inside_is a from to =
      let sized : length (uses_in m space) ≡ pages_in space = good.many space in
      let k = (a - at) / 65536 in
      let lower : k * 65536 ≤ a - at = omega arith in
      let upper : a - at < k * 65536 + 65536 = omega arith in
      let few : k < n = omega arith in
      let there : place_of a ≡ Some (place space (first + k)) =
      place_in space (first + k) a (omega arith) (omega arith) (omega arith) in
      let e : first + k - first ≡ k = omega arith in
      ap (λ (p : Option Place). use_in (put m space first run) p) there
      ∙ ap (λ (uses : List PageUse). use_at uses (first + k))
      (uses_same m space (with_run (uses_in m space) first run))
      ∙ use_within (uses_in m space) run first fits (first + k) (omega arith) (omega arith)
      ∙ ap (λ (i : ℕ). use_at run i) e

  -- a page of this space outside the run
  same_page : (page : ℕ) → (page < first) ⊎ (first + n ≤ page)
      → use_at (uses_in (put m space first run) space) page ≡ use_at (uses_in m space) page
  same_page page beside =
      ap (λ (uses : List PageUse). use_at uses page)
      (uses_same m space (with_run (uses_in m space) first run))
      ∙ (elim beside as (λ _. use_at (with_run (uses_in m space) first run) page
      ≡ use_at (uses_in m space) page) [
        | inl low ↦ use_before (uses_in m space) run first fits page low
        | inr past ↦ use_after (uses_in m space) run first fits page (omega arith)
      ])

  -- a page outside the run
  same_use : (other : Space) (page a : ℕ) → address_of other page ≤ a
      → a < address_of other page + 65536 → (a < at) ⊎ (at + n * 65536 ≤ a)
      → use_at (uses_in (put m space first run) other) page ≡ use_at (uses_in m other) page
  same_use other page a from to beside =
      elim (uses_by m space other (with_run (uses_in m space) first run)) [
        | inl e ↦
            let P : Space → Type 0 = λ s.
            use_at (uses_in (put m space first run) s) page ≡ use_at (uses_in m s) page in
            let lower : address_of space page ≤ a =
            subst (λ (s : Space). address_of s page ≤ a) (sym e) from in
            let upper : a < address_of space page + 65536 =
            subst (λ (s : Space). a < address_of s page + 65536) (sym e) to in
            subst P e (same_page page (elim beside as (λ _. (page < first) ⊎ (first + n ≤ page)) [
              | inl low ↦ inl (omega arith)
              | inr past ↦ inr (omega arith)
            ]))
        | inr same ↦ ap (λ (uses : List PageUse). use_at uses page) same
      ]

  pub outside_is : (a : ℕ) → (a < at) ⊎ (at + n * 65536 ≤ a)
      → use_in (put m space first run) (place_of a) ≡ use_in m (place_of a)
  outside_is a beside = elim (lies a) [
    | inl none ↦ rw none refl
    | inr l ↦ rw l.is (same_use l.space l.page a l.from l.to beside)
  ]

  -- where an address leads
  step_is : (a : ℕ) (there : Option ℕ) → (at ≤ a → a < at + n * 65536
      → flash_address a (flash_page_of (use_at run ((a - at) / 65536))) ≡ there)
      → translated (put m space first run) a ≡ within_run at n a there (translated m a)
  step_is a there leads = elim (within_cases at n a there (translated m a)) [
    | inl in_run ↦
        ap (λ (used : PageUse). flash_address a (flash_page_of used))
        (inside_is a in_run.0 in_run.1)
        ∙ leads in_run.0 in_run.1 ∙ sym in_run.2
    | inr beside ↦
        ap (λ (used : PageUse). flash_address a (flash_page_of used)) (outside_is a beside.0)
        ∙ sym beside.1
  ]

  -- the map stays good
  good_after : AreWhole (with_run (uses_in m space) first run) → IsWhole (put m space first run)
  good_after whole = record {
    many = λ other. elim (uses_by m space other (with_run (uses_in m space) first run)) [
      | inl e ↦ subst (λ (s : Space). length (uses_in (put m space first run) s) ≡ pages_in s) e
          (ap (λ (uses : List PageUse). length uses)
          (uses_same m space (with_run (uses_in m space) first run))
          ∙ length_with (uses_in m space) run first fits ∙ good.many space)
      | inr same ↦ ap (λ (uses : List PageUse). length uses) same ∙ good.many other
    ];
    whole = λ other. elim (uses_by m space other (with_run (uses_in m space) first run)) [
      | inl e ↦ subst (λ (s : Space). AreWhole (uses_in (put m space first run) s)) e
          (subst AreWhole (sym (uses_same m space (with_run (uses_in m space) first run))) whole)
      | inr same ↦ subst AreWhole (sym same) (good.whole other)
    ];
  }

-- the flash pages of a run
fixed_page : (f n k : ℕ) → k < n → flash_page_of (use_at (fixed_run f n) k) ≡ Some (f + k)
fixed_page f zero k inside = absurd (omega arith)
fixed_page f (suc n) zero inside = ap (λ (i : ℕ). Some i) (omega arith)
fixed_page f (suc n) (suc k) inside =
    let e : f + 1 + k ≡ f + suc k = omega arith in
    fixed_page (f + 1) n k (omega arith) ∙ ap (λ (i : ℕ). Some i) e

mapped_page : (f n k : ℕ) → k < n → flash_page_of (use_at (mapped_run f n) k) ≡ Some (f + k)
mapped_page f zero k inside = absurd (omega arith)
mapped_page f (suc n) zero inside = ap (λ (i : ℕ). Some i) (omega arith)
mapped_page f (suc n) (suc k) inside =
    let e : f + 1 + k ≡ f + suc k = omega arith in
    ap flash_page_of (later_at (f + 1) n k (omega arith)) ∙ ap (λ (i : ℕ). Some i) e

-- an address of a page that begins at the address leads to the flash page behind it
leads_there : (f at a : ℕ) → at % 65536 ≡ 0 → at ≤ a
    → flash_address a (Some (f + (a - at) / 65536)) ≡ Some (f * 65536 + (a - at))
leads_there f at a starts from = ap (λ (i : ℕ). Some i) (omega arith)

-- what a call does to the address of a page
pub record Steps (m : Map) (call : Call) : Type 0 where
  pub leads : (a : ℕ) → translated (after_call m call) a ≡ leads_to call a (translated m a)
  pub good : IsWhole (after_call m call)

pub step_fixed : (m : Map) (at f n : ℕ) → IsWhole m → IsFreeRun m at n → Steps m (FixedAt at f n)
step_fixed m at f n good free = elim (lies at) [
  | inl none ↦ absurd (subst (λ (p : Option Place). AreFreeFrom m p n) none free.free)
  | inr l ↦
      let there : AreFree (uses_in m l.space) l.page n =
      subst (λ (p : Option Place). AreFreeFrom m p n) l.is free.free in
      let starts = starts_page l.space l.page at free.page_start l.from l.to in
      let same : put m l.space l.page (fixed_run f n) ≡ fixed m at f n =
      ap (λ (p : Option Place). with_run_at m p (fixed_run f n)) (sym l.is) in
      record {
        leads = λ a. ap (λ (k : Map). translated k a) (sym same)
            ∙ step_is m l.space l.page n at (fixed_run f n) (length_fixed f n) good there.within
            starts a (Some (f * 65536 + (a - at))) (λ from to.
            ap (λ (p : Option ℕ). flash_address a p)
            (fixed_page f n ((a - at) / 65536) (omega arith))
            ∙ leads_there f at a free.page_start from);
        good = subst IsWhole same (good_after m l.space l.page n at (fixed_run f n)
            (length_fixed f n) good there.within starts
            (fixed_whole (uses_in m l.space) l.page f n (good.whole l.space) there));
      }
]

step_mapped : (m : Map) (at f n : ℕ) → IsWhole m → IsFreeRun m at n → Steps m (MappedAt at f n)
step_mapped m at f n good free = elim (lies at) [
  | inl none ↦ absurd (subst (λ (p : Option Place). AreFreeFrom m p n) none free.free)
  | inr l ↦
      let there : AreFree (uses_in m l.space) l.page n =
      subst (λ (p : Option Place). AreFreeFrom m p n) l.is free.free in
      let starts = starts_page l.space l.page at free.page_start l.from l.to in
      let same : put m l.space l.page (mapped_run f n) ≡ mapped m at f n =
      ap (λ (p : Option Place). with_run_at m p (mapped_run f n)) (sym l.is) in
      record {
        leads = λ a. ap (λ (k : Map). translated k a) (sym same)
            ∙ step_is m l.space l.page n at (mapped_run f n) (length_mapped f n) good there.within
            starts a (Some (f * 65536 + (a - at))) (λ from to.
            ap (λ (p : Option ℕ). flash_address a p)
            (mapped_page f n ((a - at) / 65536) (omega arith))
            ∙ leads_there f at a free.page_start from);
        good = subst IsWhole same (good_after m l.space l.page n at (mapped_run f n)
            (length_mapped f n) good there.within starts
            (mapped_whole (uses_in m l.space) l.page f n (good.whole l.space) there));
      }
]

step_freed : (m : Map) (at n : ℕ) → IsWhole m → IsRun m at n → Steps m (FreedAt at n)
step_freed m at n good is_run = elim (lies at) [
  | inl none ↦ absurd (subst (λ (p : Option Place). IsRunIn m p n) none is_run.run)
  | inr l ↦
      let there : IsRunIn m (Some (place l.space l.page)) n =
      subst (λ (p : Option Place). IsRunIn m p n) l.is is_run.run in
      let within = (good.whole l.space).within l.page n there.0 there.1 in
      let starts = starts_page l.space l.page at is_run.page_start l.from l.to in
      let same : put m l.space l.page (replicate n Free) ≡ freed m at n =
      ap (λ (p : Option Place). with_run_at m p (replicate n Free)) (sym l.is) in
      record {
        leads = λ a. ap (λ (k : Map). translated k a) (sym same)
            ∙ step_is m l.space l.page n at (replicate n Free) (length-replicate n Free) good within
            starts a None (λ from to.
            ap (λ (used : PageUse). flash_address a (flash_page_of used))
            (get_or-replicate n ((a - at) / 65536) Free Free (omega arith)));
        good = subst IsWhole same (good_after m l.space l.page n at (replicate n Free)
            (length-replicate n Free) good within starts
            (freed_whole (uses_in m l.space) l.page there.0 n (good.whole l.space) there.1));
      }
]

pub steps : (m : Map) (call : Call) → IsWhole m → CanMake m call → Steps m call
steps m (FixedAt at f n) good can = step_fixed m at f n good can
steps m (MappedAt at f n) good can = step_mapped m at f n good can
steps m (FreedAt at n) good can = step_freed m at n good can

-- after a list of calls
leads_by : (calls : List Call) (m : Map) (a : ℕ) (before : Option ℕ) → IsWhole m
    → translated m a ≡ before → CanMakeAll m calls
    → translated (after_calls m calls) a ≡ leads_after calls a before
leads_by [] m a before good is can = is
leads_by (call ∷ calls) m a before good is can =
    let s = steps m call good can.0 in
    leads_by calls (after_call m call) a (leads_to call a before) s.good
    (s.leads a ∙ ap (λ (p : Option ℕ). leads_to call a p) is) can.1

pub empty_good : IsWhole empty
empty_good = record {
  many = many;
  whole = whole;
} where
  many : (space : Space) → length (uses_in empty space) ≡ pages_in space
  many Data = length-replicate 64 Free
  many Code = length-replicate 51 Free

  whole : (space : Space) → AreWhole (uses_in empty space)
  whole Data = whole_none (replicate 64 Free) (free_none 64)
  whole Code = whole_none (replicate 51 Free) (free_none 51)

empty_leads : (a : ℕ) → translated empty a ≡ None
empty_leads a = elim (lies a) [
  | inl none ↦ rw none refl
  | inr l ↦ rw l.is (nowhere l.space l.page l.inside)
] where
  nowhere : (space : Space) (page : ℕ) → page < pages_in space
      → flash_address a (flash_page_of (use_at (uses_in empty space) page)) ≡ None
  nowhere Data page inside =
      ap (λ (used : PageUse). flash_address a (flash_page_of used)) (get_or-replicate 64 page
      Free Free inside)
  nowhere Code page inside =
      ap (λ (used : PageUse). flash_address a (flash_page_of used)) (get_or-replicate 51 page
      Free Free inside)

pub each_leads : (calls : List Call) (a : ℕ) → CanMakeAll empty calls
    → translated (after_calls empty calls) a ≡ leads_after calls a None
each_leads calls a can = leads_by calls empty a None empty_good (empty_leads a) can
