-- Runs of free pages, as the pages are looked at from the first on.
use Rattle.std.specs.Prelude.{◌≡◌, ◌≢◌, ℕ, ◌+◌, ◌-◌, ◌<◌, ◌≤◌, max, List, length, refl}
use Rattle.std.proofs.Common.{◌∙◌, sym, subst, inl, inr, arith}
use Rattle.std.proofs.lemmas.Bool.{cases_lt}
use Rattle.mmu_map.specs.declared.page_use.PageUse.{PageUse}
use Rattle.mmu_map.specs.declared.page_use.PageUse.TheVariants.{Free, Fixed, First, Later}
use Rattle.mmu_map.specs.Runs.{use_at, AreFree, IsLowest, IsLongest, extended}

-- of the pages below the i-th: the free run that ends there, and the longest
pub record IsScanned (uses : List PageUse) (n i run longest : ℕ) : Type 0 where
  pub small : run ≤ i
  pub most : run ≤ longest
  pub short : longest < n
  pub here : AreFree uses (i - run) run
  pub last : (first k : ℕ) → AreFree uses first k → first + k ≡ i → k ≤ run
  pub all : (first k : ℕ) → AreFree uses first k → first + k ≤ i → k ≤ longest
  pub from : ℕ
  pub some : AreFree uses from longest

-- a first part of a free run is free
pub shorter : (uses : List PageUse) (first k j : ℕ) → AreFree uses first k → j ≤ k
    → AreFree uses first j
shorter uses first k j free less = record {
  within = omega (arith, free.within);
  free = λ page from to. free.free page from (omega arith);
}

-- no pages are free anywhere
pub none_free : (uses : List PageUse) (first : ℕ) → first ≤ length uses → AreFree uses first 0
none_free uses first inside = record {
  within = omega arith;
  free = λ page from to. absurd (omega arith);
}

-- one more free page behind a free run
one_more_free : (uses : List PageUse) (i run : ℕ) → run ≤ i → i < length uses
    → AreFree uses (i - run) run → use_at uses i ≡ Free → AreFree uses (i - run) (run + 1)
one_more_free uses i run small inside here is = record {
  within = omega arith;
  free = λ page from to. elim (cases_lt page i) [
    | inl below ↦ here.free page from (omega arith)
    | inr above ↦
        let e : page ≡ i = omega arith in
        subst (λ (p : ℕ). use_at uses p ≡ Free) (sym e) is
  ];
}

module _ (uses : List PageUse) (n i run longest : ℕ) (s : IsScanned uses n i run longest)
    (inside : i < length uses) where
  -- the run that ends with a free page
  here_free : use_at uses i ≡ Free → AreFree uses (i + 1 - (run + 1)) (run + 1)
  here_free is =
      let e : i - run ≡ i + 1 - (run + 1) = omega arith in
      subst (λ (p : ℕ). AreFree uses p (run + 1)) e
      (one_more_free uses i run s.small inside s.here is)

  -- no free run that ends with it is longer
  last_free : (first k : ℕ) → AreFree uses first k → first + k ≡ i + 1 → k ≤ run + 1
  last_free first k free ends = elim (cases_lt 0 k) [
    | inl some ↦
        let before : k - 1 ≤ run = s.last first (k - 1) (shorter uses first k (k - 1) free (omega
        arith)) (omega arith) in
        omega arith
    | inr none ↦ omega arith
  ]

  -- no free run that ends there or before is longer than the longest
  all_free : (first k : ℕ) → AreFree uses first k → first + k ≤ i + 1 → k ≤ max longest (run + 1)
  all_free first k free ends = elim (cases_lt (first + k) (i + 1)) [
    | inl before ↦
        let most : k ≤ longest = s.all first k free (omega arith) in
        omega arith
    | inr at ↦
        let most : k ≤ run + 1 = last_free first k free (omega arith) in
        omega arith
  ]

  -- the longest so far, with a free page
  longest_free : use_at uses i ≡ Free → (first : ℕ) × AreFree uses first (max longest (run + 1))
  longest_free is = elim (cases_lt longest (run + 1)) [
    | inl less ↦
        let e : run + 1 ≡ max longest (run + 1) = omega arith in (
          i + 1 - (run + 1),
          subst (λ (k : ℕ). AreFree uses (i + 1 - (run + 1)) k) e (here_free is),
        )
    | inr more ↦
        let e : longest ≡ max longest (run + 1) = omega arith in
        (s.from, subst (λ (k : ℕ). AreFree uses s.from k) e s.some)
  ]

  -- with a free page the run is longer by one
  scanned_free : use_at uses i ≡ Free → run + 1 ≢ n
      → IsScanned uses n (i + 1) (run + 1) (max longest (run + 1))
  scanned_free is differs = record {
    small = omega (arith, s.small);
    most = omega arith;
    short = omega (arith, s.short, s.most, differs);
    here = here_free is;
    last = last_free;
    all = all_free;
    from = (longest_free is).0;
    some = (longest_free is).1;
  }

  -- no free run ends with a page that is not free
  last_other : use_at uses i ≢ Free → (first k : ℕ) → AreFree uses first k → first + k ≡ i + 1
      → k ≤ 0
  last_other other first k free ends = elim (cases_lt 0 k) [
    | inl some ↦ absurd (other (free.free i (omega arith) (omega arith)))
    | inr none ↦ none
  ]

  -- with another page it is none
  scanned_other : use_at uses i ≢ Free → IsScanned uses n (i + 1) 0 (max longest 0)
  scanned_other other =
      let e : longest ≡ max longest 0 = omega arith in
      subst (λ (most : ℕ). IsScanned uses n (i + 1) 0 most) e (record {
        small = omega arith;
        most = omega arith;
        short = s.short;
        here = none_free uses (i + 1 - 0) (omega arith);
        last = last_other other;
        all = λ first k free ends. elim (cases_lt (first + k) (i + 1)) [
          | inl before ↦ s.all first k free (omega arith)
          | inr at ↦
              let none : k ≤ 0 = last_other other first k free (omega arith) in
              omega arith
        ];
        from = s.from;
        some = s.some;
      })

  -- by what the page is used for
  scanned_by : (used : PageUse) → use_at uses i ≡ used → extended used run ≢ n
      → IsScanned uses n (i + 1) (extended used run) (max longest (extended used run))
  scanned_by Free is differs = scanned_free is differs
  scanned_by (Fixed flash_page) is differs = scanned_other (λ free. cc)
  scanned_by (First flash_page many) is differs = scanned_other (λ free. cc)
  scanned_by (Later flash_page) is differs = scanned_other (λ free. cc)

  -- the run that is found is the lowest
  found_free : use_at uses i ≡ Free → run + 1 ≡ n → IsLowest uses n (i + 1 - n)
  found_free is whole = record {
    free = subst (λ (k : ℕ). AreFree uses (i + 1 - k) k) whole (here_free is);
    lowest = λ first free. elim (cases_lt (first + n) (i + 1)) [
      | inl before ↦
          let most : n ≤ longest = s.all first n free (omega arith) in
          absurd (omega (arith, s.short))
      | inr at ↦ omega arith
    ];
  }

  found_by : (used : PageUse) → use_at uses i ≡ used → 1 ≤ n → extended used run ≡ n
      → IsLowest uses n (i + 1 - n)
  found_by Free is some whole = found_free is whole
  found_by (Fixed flash_page) is some whole = absurd (omega arith)
  found_by (First flash_page many) is some whole = absurd (omega arith)
  found_by (Later flash_page) is some whole = absurd (omega arith)

-- one page more is looked at
pub scanned : (uses : List PageUse) (n i run longest more most : ℕ)
    → IsScanned uses n i run longest → i < length uses → more ≡ extended (use_at uses i) run
    → more ≢ n → most ≡ max longest more → IsScanned uses n (i + 1) more most
scanned uses n i run longest more most s inside is differs most_is =
    subst (λ (k : ℕ). IsScanned uses n (i + 1) more k) (sym most_is)
    (subst (λ (k : ℕ). IsScanned uses n (i + 1) k (max longest k)) (sym is)
    (scanned_by uses n i run longest s inside (use_at uses i) refl (λ whole. differs (is ∙ whole))))

-- with one page more the run is long enough
pub found : (uses : List PageUse) (n i run longest more : ℕ) → IsScanned uses n i run longest
    → i < length uses → 1 ≤ n → more ≡ extended (use_at uses i) run → more ≡ n
    → IsLowest uses n (i + 1 - n)
found uses n i run longest more s inside some is whole =
    found_by uses n i run longest s inside (use_at uses i) refl some (sym is ∙ whole)

-- behind the last page the longest run is known
pub ended : (uses : List PageUse) (n i run longest : ℕ) → IsScanned uses n i run longest
    → length uses ≤ i → IsLongest uses longest
ended uses n i run longest s past = record {
  first = s.from;
  free = s.some;
  longest_is = λ first k free. s.all first k free (omega (arith, free.within));
}

-- before the first page no run is known
pub scanned_none : (uses : List PageUse) (n : ℕ) → 1 ≤ n → IsScanned uses n 0 0 0
scanned_none uses n some = record {
  small = omega arith;
  most = omega arith;
  short = omega arith;
  here = none_free uses (0 - 0) (omega arith);
  last = λ first k free ends. omega arith;
  all = λ first k free ends. omega arith;
  from = 0;
  some = none_free uses 0 (omega arith);
}
