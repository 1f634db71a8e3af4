-- The rewrites of a boot: at most two, of different sectors, and each gives the entry that stands
-- there another state.
use Rattle.std.proofs.Common.{◌^◌, lit<, ◌==◌, ◌≡◌, ◌⊎◌, inl, inr, ℕ, zero, suc, ◌<◌, ◌≤◌, true, false, List, [], ◌∷◌, ◌++◌, length, get_or, drop, ◌+◌, Option, Some, None, refl, sym, ap, ◌∙◌, subst, arith, All}
use Rattle.std.proofs.Math.Seq.{drop-cons}
use Rattle.std.proofs.lemmas.Bool.{cases_Bool}
use Rattle.std.proofs.lemmas.List.{drop_all}
use Rattle.std.proofs.lemmas.List.Elements.{All-nil, All-cons}
use Rattle.otadata.specs.declared.entry.Entry.{Entry}
use Rattle.otadata.specs.Choice.{active_of}
use Rattle.rollback.specs.declared.rewrite.Rewrite.{Rewrite}
use Rattle.rollback.specs.Rewrite.{changed, restated, written}
use Rattle.rollback.specs.Boot.{aborts, begin, begin_by, begin_in, boot_writes, given_up}
use Rattle.rollback.specs.Pair.{other_of}
use Rattle.rollback.proofs.BootLemmas.{boot_writes-parts}
use Rattle.rollback.proofs.EntriesLemmas.{written_same}
use Rattle.boot_run.specs.Rewriting.{AreShort}
use Rattle.boot_run.specs.Crashed.{IsRestated}

-- at most two rewrites, of the entries as they stand, in different sectors
abbrev pub AreRewrites : (ℕ → Entry) → List Rewrite → Type 0
AreRewrites es [] = Unit {0}
AreRewrites es (w ∷ []) = IsRestated es w
AreRewrites es (w ∷ v ∷ []) = IsRestated es w × IsRestated es v × (v.sector ≡ other_of w.sector)
AreRewrites es (w ∷ v ∷ u ∷ ws) = ⊥

-- an entry in another state
restates : (es : ℕ → Entry) (y state : ℕ) → y < 2 → state < 2 ^ 32
    → IsRestated es (restated state y (es y))
restates es y state two fits = record { two = two; state = state; fits = fits; is = refl }

-- which entry begins to wait: none, or one that was not aborted, as it stands
begins : (es : ℕ → Entry) (active : Option ℕ)
    → (begin_by (given_up (es 0)) (given_up (es 1)) active ≡ [])
    ⊎ (((((es 0).state == 1) ≡ false)
    × (begin_by (given_up (es 0)) (given_up (es 1)) active ≡ restated 1 0 (es 0) ∷ []))
    ⊎ ((((es 1).state == 1) ≡ false)
    × (begin_by (given_up (es 0)) (given_up (es 1)) active ≡ restated 1 1 (es 1) ∷ [])))
begins es None = inl refl
begins es (Some zero) = at (cases_Bool ((es 0).state == 1)) (cases_Bool ((es 0).state == 0))
  where
    at : (((es 0).state == 1) ≡ true) ⊎ (((es 0).state == 1) ≡ false)
        → (((es 0).state == 0) ≡ true) ⊎ (((es 0).state == 0) ≡ false)
        → (begin_in 0 (given_up (es 0)) ≡ [])
        ⊎ (((((es 0).state == 1) ≡ false)
        × (begin_in 0 (given_up (es 0)) ≡ restated 1 0 (es 0) ∷ []))
        ⊎ ((((es 1).state == 1) ≡ false)
        × (begin_in 0 (given_up (es 0)) ≡ restated 1 1 (es 1) ∷ [])))
    at (inl p) q = inl (rw p refl)
    at (inr p) (inl q) = inr (inl (p, rw (p, q) refl))
    at (inr p) (inr q) = inl (rw (p, q) refl)
begins es (Some (suc n)) = at (cases_Bool ((es 1).state == 1)) (cases_Bool ((es 1).state == 0))
  where
    at : (((es 1).state == 1) ≡ true) ⊎ (((es 1).state == 1) ≡ false)
        → (((es 1).state == 0) ≡ true) ⊎ (((es 1).state == 0) ≡ false)
        → (begin_in 1 (given_up (es 1)) ≡ [])
        ⊎ (((((es 0).state == 1) ≡ false)
        × (begin_in 1 (given_up (es 1)) ≡ restated 1 0 (es 0) ∷ []))
        ⊎ ((((es 1).state == 1) ≡ false)
        × (begin_in 1 (given_up (es 1)) ≡ restated 1 1 (es 1) ∷ [])))
    at (inl p) q = inl (rw p refl)
    at (inr p) (inl q) = inr (inr (p, rw (p, q) refl))
    at (inr p) (inr q) = inl (rw (p, q) refl)

-- those that are aborted, and one that begins to wait
gathers : (es : ℕ → Entry) (last : List Rewrite)
    → (((es 0).state == 1) ≡ true) ⊎ (((es 0).state == 1) ≡ false)
    → (((es 1).state == 1) ≡ true) ⊎ (((es 1).state == 1) ≡ false)
    → (last ≡ []) ⊎ (((((es 0).state == 1) ≡ false) × (last ≡ restated 1 0 (es 0) ∷ []))
    ⊎ ((((es 1).state == 1) ≡ false) × (last ≡ restated 1 1 (es 1) ∷ [])))
    → AreRewrites es (aborts es ++ last)
gathers es last (inl p) (inl q) (inl is) = rw (p, q, is)
    (restates es 0 4 (omega arith) (lit< tt), restates es 1 4 (omega arith) (lit< tt), refl)
gathers es last (inl p) (inl q) (inr (inl is)) = absurd (let no = sym p ∙ is.0 in cc)
gathers es last (inl p) (inl q) (inr (inr is)) = absurd (let no = sym q ∙ is.0 in cc)
gathers es last (inl p) (inr q) (inl is) = rw (p, q, is) (restates es 0 4 (omega arith) (lit< tt))
gathers es last (inl p) (inr q) (inr (inl is)) = absurd (let no = sym p ∙ is.0 in cc)
gathers es last (inl p) (inr q) (inr (inr is)) = rw (p, q, is.1)
    (restates es 0 4 (omega arith) (lit< tt), restates es 1 1 (omega arith) (lit< tt), refl)
gathers es last (inr p) (inl q) (inl is) = rw (p, q, is) (restates es 1 4 (omega arith) (lit< tt))
gathers es last (inr p) (inl q) (inr (inl is)) = rw (p, q, is.1)
    (restates es 1 4 (omega arith) (lit< tt), restates es 0 1 (omega arith) (lit< tt), refl)
gathers es last (inr p) (inl q) (inr (inr is)) = absurd (let no = sym q ∙ is.0 in cc)
gathers es last (inr p) (inr q) (inl is) = rw (p, q, is) tt
gathers es last (inr p) (inr q) (inr (inl is)) = rw (p, q, is.1)
    (restates es 0 1 (omega arith) (lit< tt))
gathers es last (inr p) (inr q) (inr (inr is)) = rw (p, q, is.1)
    (restates es 1 1 (omega arith) (lit< tt))

-- so are the rewrites of a boot
pub boot_are : (es : ℕ → Entry) → AreRewrites es (boot_writes es)
boot_are es =
    subst (AreRewrites es) (sym (boot_writes-parts es))
    (gathers es (begin (given_up (es 0)) (given_up (es 1))) (cases_Bool ((es 0).state == 1))
    (cases_Bool ((es 1).state == 1)) (begins es (active_of (given_up (es 0)) (given_up (es 1)))))

-- a rewrite has the label of the entry
restated_label : (es : ℕ → Entry) (write : Rewrite) → IsRestated es write
    → write.entry.label ≡ (es write.sector).label
restated_label es write restated = ap (λ (w : Rewrite). w.entry.label) restated.is

-- rewrites of short entries are short
pub boot_short : (es : ℕ → Entry) → ((y : ℕ) → y < 2 → length (es y).label ≤ 20)
    → (writes : List Rewrite)
    → AreRewrites es writes → AreShort writes
boot_short es short [] are = tt
boot_short es short (w ∷ []) are = (
  (
    are.two,
    let same = ap length (restated_label es w are) in let less = short w.sector are.two
        in omega arith,
  ),
  tt,
)
boot_short es short (w ∷ v ∷ []) are = (
  (
    are.0.two,
    let same = ap length (restated_label es w are.0) in let less = short w.sector
        are.0.two in omega arith,
  ),
  (
    (
      are.1.two,
      let same = ap length (restated_label es v are.1) in let less = short v.sector
          are.1.two in omega arith,
    ),
    tt,
  ),
)
boot_short es short (w ∷ v ∷ u ∷ ws) are = absurd are

-- each is of one of two sectors
pub boot_two : (es : ℕ → Entry) (writes : List Rewrite) → AreRewrites es writes
    → All (λ write. write.sector < 2) writes
boot_two es [] are = All-nil (λ (write : Rewrite). write.sector < 2)
boot_two es (w ∷ []) are =
    All-cons (λ (write : Rewrite). write.sector < 2) w [] are.two
    (All-nil (λ (write : Rewrite). write.sector < 2))
boot_two es (w ∷ v ∷ []) are =
    All-cons (λ (write : Rewrite). write.sector < 2) w (v ∷ []) are.0.two
    (All-cons (λ (write : Rewrite). write.sector < 2) v [] are.1.two
    (All-nil (λ (write : Rewrite). write.sector < 2)))
boot_two es (w ∷ v ∷ u ∷ ws) are = absurd are

-- ---- one after the other

-- rewrites go on from the entries after the first one
pub written_more : (ws : List Rewrite) (i : ℕ) (d : Rewrite) (es gs : ℕ → Entry) → i < length ws
    → gs 0 ≡ changed (get_or ws i d) es 0 → gs 1 ≡ changed (get_or ws i d) es 1
    → (written (drop (i + 1) ws) gs 0 ≡ written (drop i ws) es 0)
    × (written (drop (i + 1) ws) gs 1 ≡ written (drop i ws) es 1)
written_more ws i d es gs inside first second =
    let next : i + 1 ≡ suc i = omega arith in
    let front : drop i ws ≡ get_or ws i d ∷ drop (i + 1) ws =
    drop-cons ws i d inside ∙ ap (λ n. get_or ws i d ∷ drop n ws) (sym next) in
    let after = changed (get_or ws i d) es in (
      written_same (drop (i + 1) ws) after gs 0 first ∙ ap (λ l. written l es 0) (sym front),
      written_same (drop (i + 1) ws) after gs 1 second ∙ ap (λ l. written l es 1) (sym front),
    )

-- no rewrite is left
pub written_all : (ws : List Rewrite) (i : ℕ) (es : ℕ → Entry) (y : ℕ) → length ws ≤ i
    → written (drop i ws) es y ≡ es y
written_all ws i es y all = ap (λ l. written l es y) (drop_all i ws all)
