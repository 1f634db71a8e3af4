-- A run of pages in place of another one as long.
use Rattle.std.specs.Prelude.{◌≡◌, ℕ, suc, ◌+◌, ◌-◌, ◌<◌, ◌≤◌, List, [], ◌∷◌, ◌++◌, length, take, drop, replicate, refl}
use Rattle.std.proofs.Common.{◌∙◌, sym, ap, arith, set, length-drop, length-append, add-one, append_assoc}
use Rattle.std.proofs.Math.ListN.{length-set, length-take}
use Rattle.std.proofs.Math.Seq.{take-suc-set, get_or-take, get_or-drop, drop-drop}
use borrow.Rule.Slice.PartMut.{put_mid, mid_of, mid_len}
use Rattle.std.proofs.lemmas.List.{get_or_append_left, get_or-append_right}
use Rattle.mmu_map.specs.declared.page_use.PageUse.{PageUse}
use Rattle.mmu_map.specs.declared.page_use.PageUse.TheVariants.{Free, Fixed, Later}
use Rattle.mmu_map.specs.Runs.{use_at, fixed_run, later_run, with_run}

-- one more page is put: what is put and what is left are as before
put_more : (part rest : List PageUse) (i : ℕ) (used : PageUse) → i < length part
    → take (i + 1) (set part i used) ++ rest ≡ take i part ++ (used ∷ rest)
put_more part rest i used inside =
    ap (λ (front : List PageUse). front ++ rest)
    (ap (λ (k : ℕ). take k (set part i used)) (add-one i) ∙ take-suc-set part i used inside)
    ∙ append_assoc (take i part) (used ∷ []) rest

module _ (run : ℕ → ℕ → List PageUse) (used : ℕ → PageUse)
    (goes_on : (f n : ℕ) → run f (suc n) ≡ used f ∷ run (f + 1) n) where
  run_more : (part : List PageUse) (f i : ℕ) → i < length part
      → take i part ++ run (f + i) (length part - i) ≡ run f (length part)
      → take (i + 1) (set part i (used (f + i)))
      ++ run (f + (i + 1)) (length (set part i (used (f + i))) - (i + 1))
      ≡ run f (length (set part i (used (f + i))))
  run_more part f i inside before =
      let same : length (set part i (used (f + i)))
      ≡ length part = length-set part i (used (f + i)) in
      let more : length part - i ≡ suc (length part - (i + 1)) = omega arith in
      let next : f + i + 1 ≡ f + (i + 1) = omega arith in
      let left : run (f + i) (length part - i)
      ≡ used (f + i) ∷ run (f + (i + 1)) (length part - (i + 1)) =
      ap (λ (k : ℕ). run (f + i) k) more ∙ goes_on (f + i) (length part - (i + 1))
      ∙ ap (λ (k : ℕ). used (f + i) ∷ run k (length part - (i + 1))) next in
      ap (λ (k : ℕ). take (i + 1) (set part i (used (f + i)))
      ++ run (f + (i + 1)) (k - (i + 1))) same
      ∙ put_more part (run (f + (i + 1)) (length part - (i + 1))) i (used (f + i)) inside
      ∙ ap (λ (rest : List PageUse). take i part ++ rest) (sym left) ∙ before
      ∙ ap (λ (k : ℕ). run f k) (sym same)

-- one more flash page is put for good
pub fixed_more : (part : List PageUse) (f i : ℕ) → i < length part
    → take i part ++ fixed_run (f + i) (length part - i) ≡ fixed_run f (length part)
    → take (i + 1) (set part i (Fixed (f + i)))
    ++ fixed_run (f + (i + 1)) (length (set part i (Fixed (f + i))) - (i + 1))
    ≡ fixed_run f (length (set part i (Fixed (f + i))))
fixed_more = run_more fixed_run Fixed (λ f n. refl)

-- one more is put behind a first one
pub later_more : (part : List PageUse) (f i : ℕ) → i < length part
    → take i part ++ later_run (f + i) (length part - i) ≡ later_run f (length part)
    → take (i + 1) (set part i (Later (f + i)))
    ++ later_run (f + (i + 1)) (length (set part i (Later (f + i))) - (i + 1))
    ≡ later_run f (length (set part i (Later (f + i))))
later_more = run_more later_run Later (λ f n. refl)

-- one more is left free
pub free_more : (part : List PageUse) (i : ℕ) → i < length part
    → take i part ++ replicate (length part - i) Free ≡ replicate (length part) Free
    → take (i + 1) (set part i Free) ++ replicate (length (set part i Free) - (i + 1)) Free
    ≡ replicate (length (set part i Free)) Free
free_more part i inside before =
    run_more (λ f n. replicate n Free) (λ f. Free) (λ f n. refl) part 0 i inside before

module _ (uses run : List PageUse) (first : ℕ) (within : first + length run ≤ length uses) where
  -- as many pages as before
  pub length_with : length (with_run uses first run) ≡ length uses
  length_with = omega (
    arith,
    length-take first uses,
    length-drop (first + length run) uses,
    length-append (take first uses ++ run) (drop (first + length run) uses),
    length-append (take first uses) run,
  )

  front_length : length (take first uses) ≡ first
  front_length = omega (arith, length-take first uses)

  two_length : length (take first uses ++ run) ≡ first + length run
  two_length = omega (arith, front_length, length-append (take first uses) run)

  -- before the run nothing changed
  pub use_before : (page : ℕ) → page < first → use_at (with_run uses first run) page
      ≡ use_at uses page
  use_before page low =
      get_or_append_left (take first uses ++ run) (drop (first + length run) uses) Free page
      (omega (arith, two_length))
      ∙ get_or_append_left (take first uses) run Free page (omega (arith, front_length))
      ∙ get_or-take first uses page Free low

  -- in it stands the run
  pub use_within : (page : ℕ) → first ≤ page → page < first + length run
      → use_at (with_run uses first run) page ≡ use_at run (page - first)
  use_within page from to =
      get_or_append_left (take first uses ++ run) (drop (first + length run) uses) Free page
      (omega (arith, two_length))
      ∙ get_or-append_right (take first uses) run first page Free front_length from

  -- behind it nothing changed
  pub use_after : (page : ℕ) → first + length run ≤ page
      → use_at (with_run uses first run) page ≡ use_at uses page
  use_after page past =
      let e : first + length run + (page - (first + length run)) ≡ page = omega arith in
      get_or-append_right (take first uses ++ run) (drop (first + length run) uses)
      (first + length run) page Free two_length past
      ∙ get_or-drop (first + length run) uses (page - (first + length run)) Free
      ∙ ap (λ (k : ℕ). use_at uses k) e

-- pages of which a part was written
pub put_is : (uses part run : List PageUse) (first n : ℕ) → part ≡ run → length run ≡ n
    → put_mid first (first + n - first) uses part ≡ with_run uses first run
put_is uses part run first n is many =
    let e : first + (first + n - first) ≡ first + length run = omega arith in
    ap (λ (p : List PageUse). put_mid first (first + n - first) uses p) is
    ∙ ap (λ (rest : List PageUse). take first uses ++ (run ++ rest))
    (drop-drop (first + n - first) first uses ∙ ap (λ (k : ℕ). drop k uses) e)
    ∙ sym (append_assoc (take first uses) run (drop (first + length run) uses))

-- the same where what was written goes by the length of the part
pub placed : (run : ℕ → List PageUse) → ((n : ℕ) → length (run n) ≡ n)
    → (uses part : List PageUse) (first n : ℕ) → first + n ≤ length uses
    → part ≡ run (length (mid_of first (first + n - first) uses))
    → put_mid first (first + n - first) uses part ≡ with_run uses first (run n)
placed run many uses part first n inside is =
    let e : length (mid_of first (first + n - first) uses) ≡ n =
    mid_len first (first + n) uses inside ∙ omega arith in
    put_is uses part (run n) first n (is ∙ ap run e) (many n)
