-- What the rewrites of a boot leave, and when there are none.
use Rattle.std.proofs.Common.{◌==◌, ◌≡◌, ◌≢◌, ◌↔◌, ℕ, zero, suc, true, false, List, [], ◌∷◌, ◌++◌, Option, Some, None, refl, sym, ap, ◌∙◌, ◌⊎◌, inl, inr, subst, arith}
use Rattle.std.proofs.lemmas.Bool.{cases_Bool}
use Rattle.std.proofs.lemmas.Bool.Decides.{nat_tests}
use Rattle.otadata.specs.declared.entry.Entry.{Entry}
use Rattle.otadata.specs.Choice.{active_of}
use Rattle.boot_select.specs.Settled.{NoneWaits, sectors}
use Rattle.rollback.specs.declared.rewrite.Rewrite.{Rewrite}
use Rattle.rollback.specs.Rewrite.{written}
use Rattle.rollback.specs.Boot.{abort, aborts, begin, begin_by, begin_in, boot_writes, given_up}

-- the first entry once those that wait are aborted
pub aborted_0 : (es : ℕ → Entry) → written (aborts es) es 0 ≡ given_up (es 0)
aborted_0 es = at (cases_Bool ((es 0).state == 1)) (cases_Bool ((es 1).state == 1))
  where
    at : (((es 0).state == 1) ≡ true) ⊎ (((es 0).state == 1) ≡ false)
        → (((es 1).state == 1) ≡ true) ⊎ (((es 1).state == 1) ≡ false)
        → written (aborts es) es 0 ≡ given_up (es 0)
    at (inl p) (inl q) = rw (p, q) refl
    at (inl p) (inr q) = rw (p, q) refl
    at (inr p) (inl q) = rw (p, q) refl
    at (inr p) (inr q) = rw (p, q) refl

-- the second one
pub aborted_1 : (es : ℕ → Entry) → written (aborts es) es 1 ≡ given_up (es 1)
aborted_1 es = at (cases_Bool ((es 0).state == 1)) (cases_Bool ((es 1).state == 1))
  where
    at : (((es 0).state == 1) ≡ true) ⊎ (((es 0).state == 1) ≡ false)
        → (((es 1).state == 1) ≡ true) ⊎ (((es 1).state == 1) ≡ false)
        → written (aborts es) es 1 ≡ given_up (es 1)
    at (inl p) (inl q) = rw (p, q) refl
    at (inl p) (inr q) = rw (p, q) refl
    at (inr p) (inl q) = rw (p, q) refl
    at (inr p) (inr q) = rw (p, q) refl

-- the rewrites of a boot, by the entries once those that wait are aborted
pub boot_writes-parts : (es : ℕ → Entry) → boot_writes es ≡ aborts es ++ begin (given_up (es 0)) (given_up (es 1))
unfolding boot_writes
boot_writes-parts es = rw (aborted_0 es, aborted_1 es) refl

-- an entry isn't aborted where it doesn't wait
pub abort-none : (sector : ℕ) (e : Entry) → (abort sector e ≡ []) ↔ (e.state ≢ 1)
abort-none sector e = grind (arith, nat_tests)

-- an entry doesn't begin to wait where it isn't new
pub begin_in-none : (sector : ℕ) (e : Entry) → (begin_in sector e ≡ []) ↔ (e.state ≢ 0)
begin_in-none sector e = grind (arith, nat_tests)

-- nothing is left of neither
append-none : (ws vs : List Rewrite) → (ws ++ vs ≡ []) ↔ ((ws ≡ []) × (vs ≡ []))
append-none [] vs = (λ none. (refl, none), λ both. both.1)
append-none (w ∷ ws) vs = (λ none. absurd cc, λ both. absurd (let none = both.0 in cc))

-- an entry that doesn't wait is not given up
pub given_up-same : (e : Entry) → e.state ≢ 1 → given_up e ≡ e
given_up-same e other = at (cases_Bool (e.state == 1))
  where
    at : ((e.state == 1) ≡ true) ⊎ ((e.state == 1) ≡ false) → given_up e ≡ e
    at (inl p) = absurd (other (grind (arith, nat_tests)))
    at (inr p) = rw p refl

-- the active entry isn't new, by which one it is
begin_by-none : (es : ℕ → Entry) (active : Option ℕ)
    → (begin_by (es 0) (es 1) active ≡ []) ↔ ((y : ℕ) → active ≡ Some y → (sectors (es 0) (es 1) y).state ≢ 0)
begin_by-none es None = (λ none y is. absurd cc, λ all. refl)
begin_by-none es (Some zero) =
    let test = begin_in-none 0 (es 0) in
    let P : ℕ → Type 0 = λ y. (sectors (es 0) (es 1) y).state ≢ 0 in
    (λ none y is. let same : 0 ≡ y = cc in subst P same (test.0 none), λ all. test.1 (all 0 refl))
begin_by-none es (Some (suc n)) =
    let test = begin_in-none 1 (es 1) in
    let P : ℕ → Type 0 = λ y. (sectors (es 0) (es 1) y).state ≢ 0 in
    (λ none y is. let same : suc n ≡ y = cc in subst P same (test.0 none), λ all. test.1 (all (suc n) refl))

-- a boot rewrites nothing exactly where no entry waits
pub boot_writes-none : (es : ℕ → Entry) → (boot_writes es ≡ []) ↔ NoneWaits (es 0) (es 1)
boot_writes-none es = rw (boot_writes-parts es) (front, back)
  where
    still : (es 0).state ≢ 1 → (es 1).state ≢ 1 → begin (given_up (es 0)) (given_up (es 1)) ≡ begin (es 0) (es 1)
    still first second = rw (given_up-same (es 0) first, given_up-same (es 1) second) refl

    front : aborts es ++ begin (given_up (es 0)) (given_up (es 1)) ≡ [] → NoneWaits (es 0) (es 1)
    front none =
        let both = (append-none (aborts es) (begin (given_up (es 0)) (given_up (es 1)))).0 none in
        let two = (append-none (abort 0 (es 0)) (abort 1 (es 1))).0 both.0 in
        let first = (abort-none 0 (es 0)).0 two.0 in
        let second = (abort-none 1 (es 1)).0 two.1 in
        record {
          first = first;
          second = second;
          active = (begin_by-none es (active_of (es 0) (es 1))).0 (sym (still first second) ∙ both.1);
        }

    back : NoneWaits (es 0) (es 1) → aborts es ++ begin (given_up (es 0)) (given_up (es 1)) ≡ []
    back fact =
        (append-none (aborts es) (begin (given_up (es 0)) (given_up (es 1)))).1 (
          (append-none (abort 0 (es 0)) (abort 1 (es 1))).1
              ((abort-none 0 (es 0)).1 fact.first, (abort-none 1 (es 1)).1 fact.second),
          still fact.first fact.second ∙ (begin_by-none es (active_of (es 0) (es 1))).1 fact.active,
        )

-- the rewrites of a boot, as they are gathered
pub gathered : (es : ℕ → Entry) (none one two all : List Rewrite) (first second : Entry)
    → none ≡ [] → one ≡ none ++ abort 0 (es 0) → two ≡ one ++ abort 1 (es 1)
    → first ≡ given_up (es 0) → second ≡ given_up (es 1) → all ≡ two ++ begin first second
    → all ≡ boot_writes es
gathered es none one two all first second p q r f s t =
    t ∙ ap (λ ws. ws ++ begin first second) (r ∙ ap (λ ws. ws ++ abort 1 (es 1)) (q ∙ ap (λ ws. ws ++ abort 0 (es 0)) p))
    ∙ ap (λ e. aborts es ++ begin e second) f ∙ ap (λ e. aborts es ++ begin (given_up (es 0)) e) s ∙ sym (boot_writes-parts es)
