-- Runs that were mapped stay whole.
use Rattle.std.specs.Prelude.{◌≡◌, ◌≢◌, ◌⊎◌, ℕ, zero, suc, ◌+◌, ◌-◌, ◌<◌, ◌≤◌, List, [], length, replicate, refl}
use Rattle.std.proofs.Common.{◌∙◌, sym, ap, subst, inl, inr, arith}
use Rattle.std.proofs.Math.ListN.{length-replicate}
use Rattle.std.proofs.lemmas.Bool.{cases_lt}
use Rattle.mmu_map.specs.declared.page_use.PageUse.{PageUse}
use Rattle.mmu_map.specs.declared.page_use.PageUse.TheVariants.{Free, First, Later}
use Rattle.mmu_map.specs.Runs.{use_at, run_length, AreFree, AreWhole, IsLowest, fixed_run, later_run, mapped_run, with_run}
use Rattle.mmu_map.proofs.WithRun.{length_with, use_before, use_within, use_after, put_is, placed}
use borrow.Rule.Slice.PartMut.{put_mid, mid_of}

-- how many pages each run has
pub length_fixed : (f n : ℕ) → length (fixed_run f n) ≡ n
length_fixed f zero = refl
length_fixed f (suc n) = ap suc (length_fixed (f + 1) n)

length_later : (f n : ℕ) → length (later_run f n) ≡ n
length_later f zero = refl
length_later f (suc n) = ap suc (length_later (f + 1) n)

pub length_mapped : (f n : ℕ) → length (mapped_run f n) ≡ n
length_mapped f zero = refl
length_mapped f (suc n) = ap suc (length_later (f + 1) n)

-- no page is the first of a run
abbrev pub HasNoFirst : List PageUse → Type 0
HasNoFirst uses = (page n f : ℕ) → use_at uses page ≢ First f n

-- pages without a first one are whole
pub whole_none : (uses : List PageUse) → HasNoFirst uses → AreWhole uses
whole_none uses none = record {
  within = λ page n f is. absurd (none page n f is);
  later = λ page n f other is from to. absurd (none page n f is);
}

fixed_none : (f n : ℕ) → HasNoFirst (fixed_run f n)
fixed_none f zero page m g is = cc
fixed_none f (suc n) zero m g is = cc
fixed_none f (suc n) (suc page) m g is = fixed_none (f + 1) n page m g is

later_none : (f n : ℕ) → HasNoFirst (later_run f n)
later_none f zero page m g is = cc
later_none f (suc n) zero m g is = cc
later_none f (suc n) (suc page) m g is = later_none (f + 1) n page m g is

pub free_none : (n : ℕ) → HasNoFirst (replicate n Free)
free_none zero page m g is = cc
free_none (suc n) zero m g is = cc
free_none (suc n) (suc page) m g is = free_none n page m g is

pub later_at : (f n page : ℕ) → page < n → use_at (later_run f n) page ≡ Later (f + page)
later_at f zero page inside = absurd (omega arith)
later_at f (suc n) zero inside = ap (λ (k : ℕ). Later k) (omega arith)
later_at f (suc n) (suc page) inside =
    let e : f + 1 + page ≡ f + suc page = omega arith in
    later_at (f + 1) n page (omega arith) ∙ ap (λ (k : ℕ). Later k) e

-- a run that is mapped is whole
first_is : (f n g m : ℕ) → First f n ≡ First g m → n ≡ m
first_is f n g m is = cc

whole_mapped : (f n : ℕ) → AreWhole (mapped_run f n)
whole_mapped f zero = whole_none [] (λ page m g is. cc)
whole_mapped f (suc n) = record {
  within = within;
  later = later;
} where
  within : (page m g : ℕ) → use_at (mapped_run f (suc n)) page ≡ First g m
      → page + m ≤ length (mapped_run f (suc n))
  within zero m g is =
      let e : suc n ≡ m = first_is f (suc n) g m is in
      omega (arith, length_later (f + 1) n)
  within (suc page) m g is = absurd (later_none (f + 1) n page m g is)

  later : (page m g other : ℕ) → use_at (mapped_run f (suc n)) page ≡ First g m → page < other
      → other < page + m → (h : ℕ) × (use_at (mapped_run f (suc n)) other ≡ Later h)
  later zero m g zero is from to = absurd (omega arith)
  later zero m g (suc other) is from to =
      let e : suc n ≡ m = first_is f (suc n) g m is in
      (f + 1 + other, later_at (f + 1) n other (omega arith))
  later (suc page) m g other is from to = absurd (later_none (f + 1) n page m g is)

-- a run that begins outside these pages does not reach in
abbrev pub IsApart : List PageUse → ℕ → ℕ → Type 0
IsApart uses first n = (page m f other : ℕ) → use_at uses page ≡ First f m
    → (page < first) ⊎ (first + n ≤ page) → page < other → other < page + m
    → (other < first) ⊎ (first + n ≤ other)

-- where free pages stand none reaches in
apart_free : (uses : List PageUse) (first n : ℕ) → AreWhole uses → AreFree uses first n
    → IsApart uses first n
apart_free uses first n whole free page m f other is beside from to = elim (cases_lt other first) [
  | inl low ↦ inl low
  | inr high ↦ elim (cases_lt other (first + n)) [
    | inl inside ↦
        let later = whole.later page m f other is from to in
        let none = free.free other high inside in
        absurd (clash later.0 later.1 none)
    | inr past ↦ inr past
  ]
] where
  clash : (g : ℕ) → use_at uses other ≡ Later g → use_at uses other ≡ Free → ⊥
  clash g a b = cc

-- where another run stands none reaches in
apart_run : (uses : List PageUse) (first n g : ℕ) → AreWhole uses → use_at uses first ≡ First g n
    → IsApart uses first n
apart_run uses first n g whole run page m f other is beside from to =
    elim (cases_lt other first) [
      | inl low ↦ inl low
      | inr high ↦ elim (cases_lt other (first + n)) [
        | inl inside ↦ elim beside [
          | inl before ↦
              let later = whole.later page m f first is before (omega arith) in
              absurd (clash later.0 later.1)
          | inr past ↦ absurd (omega arith)
        ]
        | inr past ↦ inr past
      ]
    ] where
      clash : (h : ℕ) → use_at uses first ≡ Later h → ⊥
      clash h a = cc

module _ (uses run : List PageUse) (first : ℕ) (inside : first + length run ≤ length uses)
    (whole : AreWhole uses) (run_whole : AreWhole run)
    (apart : IsApart uses first (length run)) where
  within_outside : (page m f : ℕ) → use_at uses page ≡ First f m
      → page + m ≤ length (with_run uses first run)
  within_outside page m f is =
      omega (arith, whole.within page m f is, length_with uses run first inside)

  later_outside : (page m f other : ℕ) → use_at uses page ≡ First f m
      → (page < first) ⊎ (first + length run ≤ page) → page < other → other < page + m
      → (h : ℕ) × (use_at (with_run uses first run) other ≡ Later h)
  later_outside page m f other is beside from to =
      let later = whole.later page m f other is from to in
      elim (apart page m f other is beside from to) [
        | inl low ↦ (later.0, use_before uses run first inside other low ∙ later.1)
        | inr past ↦ (later.0, use_after uses run first inside other past ∙ later.1)
      ]

  within_inside : (page m f : ℕ) → first ≤ page → page < first + length run
      → use_at run (page - first) ≡ First f m → page + m ≤ length (with_run uses first run)
  within_inside page m f from to is =
      omega (
        arith,
        run_whole.within (page - first) m f is,
        length_with uses run first inside,
      )

  later_inside : (page m f other : ℕ) → first ≤ page → page < first + length run
      → use_at run (page - first) ≡ First f m → page < other → other < page + m
      → (h : ℕ) × (use_at (with_run uses first run) other ≡ Later h)
  later_inside page m f other from to is after before =
      let fits = run_whole.within (page - first) m f is in
      let later = run_whole.later (page - first) m f (other - first) is (omega arith) (omega
      arith) in (
        later.0,
        use_within uses run first inside other (omega arith) (omega (arith, fits)) ∙ later.1,
      )

  -- pages with a whole run in place of others stay whole
  whole_with : AreWhole (with_run uses first run)
  whole_with = record {
    within = λ page m f is. elim (cases_lt page first) [
      | inl low ↦
          within_outside page m f (sym (use_before uses run first inside page low) ∙ is)
      | inr high ↦ elim (cases_lt page (first + length run)) [
        | inl there ↦ within_inside page m f high there
            (sym (use_within uses run first inside page high there) ∙ is)
        | inr past ↦
            within_outside page m f (sym (use_after uses run first inside page past) ∙ is)
      ]
    ];
    later = λ page m f other is from to. elim (cases_lt page first) [
      | inl low ↦ later_outside page m f other
          (sym (use_before uses run first inside page low) ∙ is) (inl low) from to
      | inr high ↦ elim (cases_lt page (first + length run)) [
        | inl there ↦ later_inside page m f other high there
            (sym (use_within uses run first inside page high there) ∙ is) from to
        | inr past ↦ later_outside page m f other
            (sym (use_after uses run first inside page past) ∙ is) (inr past) from to
      ]
    ];
  }

-- once flash pages are fixed on free pages
pub fixed_whole : (uses : List PageUse) (first f n : ℕ) → AreWhole uses → AreFree uses first n
    → AreWhole (with_run uses first (fixed_run f n))
fixed_whole uses first f n whole free =
    let e : n ≡ length (fixed_run f n) = sym (length_fixed f n) in
    whole_with uses (fixed_run f n) first (omega (arith, free.within, length_fixed f n)) whole
    (whole_none (fixed_run f n) (fixed_none f n))
    (subst (λ (k : ℕ). IsApart uses first k) e (apart_free uses first n whole free))

-- once they are mapped on them
pub mapped_whole : (uses : List PageUse) (first f n : ℕ) → AreWhole uses → AreFree uses first n
    → AreWhole (with_run uses first (mapped_run f n))
mapped_whole uses first f n whole free =
    let e : n ≡ length (mapped_run f n) = sym (length_mapped f n) in
    whole_with uses (mapped_run f n) first (omega (arith, free.within, length_mapped f n)) whole
    (whole_mapped f n)
    (subst (λ (k : ℕ). IsApart uses first k) e (apart_free uses first n whole free))

-- once a run that was mapped is freed
pub freed_whole : (uses : List PageUse) (first g n : ℕ) → AreWhole uses
    → use_at uses first ≡ First g n → AreWhole (with_run uses first (replicate n Free))
freed_whole uses first g n whole is =
    let e : n ≡ length (replicate n Free) = sym (length-replicate n Free) in
    whole_with uses (replicate n Free) first
    (omega (arith, whole.within first n g is, length-replicate n Free)) whole
    (whole_none (replicate n Free) (free_none n))
    (subst (λ (k : ℕ). IsApart uses first k) e (apart_run uses first n g whole is))

-- the same as the pages stand once a part of them was written
pub fixed_put : (uses part : List PageUse) (first f n : ℕ) → AreWhole uses
    → AreFree uses first n
    → part ≡ fixed_run f (length (mid_of first (first + n - first) uses))
    → AreWhole (put_mid first (first + n - first) uses part)
fixed_put uses part first f n whole free is =
    subst AreWhole (sym (placed (fixed_run f) (length_fixed f) uses part first n free.within is))
    (fixed_whole uses first f n whole free)

pub mapped_put : (uses part : List PageUse) (first f n : ℕ) → AreWhole uses
    → IsLowest uses n first → part ≡ mapped_run f n
    → AreWhole (put_mid first (first + n - first) uses part)
mapped_put uses part first f n whole found is =
    subst AreWhole (sym (put_is uses part (mapped_run f n) first n is (length_mapped f n)))
    (mapped_whole uses first f n whole found.free)

pub freed_is : (uses part : List PageUse) (first g n : ℕ) → AreWhole uses
    → use_at uses first ≡ First g n
    → part ≡ replicate (length (mid_of first (first + n - first) uses)) Free
    → put_mid first (first + n - first) uses part
    ≡ with_run uses first (replicate (run_length (use_at uses first)) Free)
freed_is uses part first g n whole is put =
    placed (λ k. replicate k Free) (λ k. length-replicate k Free) uses part first n
    (whole.within first n g is) put
    ∙ ap (λ (used : PageUse). with_run uses first (replicate (run_length used) Free)) (sym is)

pub freed_put : (uses part : List PageUse) (first g n : ℕ) → AreWhole uses
    → use_at uses first ≡ First g n
    → part ≡ replicate (length (mid_of first (first + n - first) uses)) Free
    → AreWhole (put_mid first (first + n - first) uses part)
freed_put uses part first g n whole is put =
    subst AreWhole (sym (placed (λ k. replicate k Free) (λ k. length-replicate k Free) uses part
    first n (whole.within first n g is) put)) (freed_whole uses first g n whole is)
