-- The live changes make the map that all changes make, and it has as many keys as there are live ones.
use Rattle.std.proofs.Common.{◌≡◌, ℕ, ◌+◌, Bool, true, false, not, ◌&&◌, ◌||◌, cond, List, [], ◌∷◌, length, Option, None, Some, refl, sym, ap, ◌∙◌, inl, inr, arith}
use Rattle.std.specs.Prelude.{is_some}
use Rattle.std.specs.Ordering.{nat_cmp, is_eq}
use Rattle.std.specs.Cmp.Lexicographic.{slice_cmp}
use Rattle.std.proofs.lemmas.Cmp.{nat_list_cmp_total}
use Rattle.std.proofs.lemmas.Bool.{cases_Bool, both_ways, or_right}
use Rattle.std.specs.FinMap.{get, insert, len, get-insert, get-remove, get-empty, len-insert, len-empty, same_map, slice_cmp-IsAntisymmetric, nat_cmp-IsAntisymmetric}
use Rattle.std.specs.Cmp.{tied_itself}
use Rattle.std.specs.declared.cmp.Ordering.{Ordering}
use Rattle.std.specs.declared.cmp.Ordering.TheVariants.{Less, Equal, Greater}
use Rattle.nvs_keys.specs.Changes.{Change, Map, changed, has_key, is_live, live, map_after, no_keys, same_key, with_value}

-- ---- keys

equal_order : (o : Ordering) → is_eq o ≡ true → o ≡ Equal
equal_order Less e = absurd (both_ways (is_eq Less) refl e)
equal_order Equal e = refl
equal_order Greater e = absurd (both_ways (is_eq Greater) refl e)

-- keys that are told to be the same are equal
pub same_keys : (a b : List ℕ) → same_key a b ≡ true → a ≡ b
same_keys a b e = slice_cmp-IsAntisymmetric nat_cmp-IsAntisymmetric a b (equal_order (slice_cmp nat_cmp a b) e)

-- a key is the same as itself
pub key_itself : (a : List ℕ) → same_key a a ≡ true
key_itself a = ap is_eq (tied_itself nat_list_cmp_total a)

-- ---- one change

-- what a key has behind a change
pub get_changed : (m : Map) (c : Change) (q : List ℕ)
    → get (changed m c) q ≡ cond (same_key q c.key) c.value (get m q)
get_changed m c q = by_value c.value
  where
    by_value : (v : Option (List ℕ))
        → get (with_value m c.key v) q ≡ cond (same_key q c.key) v (get m q)
    by_value None = get-remove nat_list_cmp_total m c.key q
    by_value (Some v) = get-insert nat_list_cmp_total m c.key v q

-- ---- several changes

-- what a key has behind changes, by what it had before
abbrev pub found : List Change → List ℕ → Option (List ℕ) → Option (List ℕ)
found [] q before = before
found (c ∷ cs) q before = found cs q (cond (same_key q c.key) c.value before)

pub get_after : (m : Map) (cs : List Change) (q : List ℕ)
    → get (map_after m cs) q ≡ found cs q (get m q)
get_after m [] q = refl
get_after m (c ∷ cs) q = get_after (changed m c) cs q ∙ ap (found cs q) (get_changed m c q)

-- with no change of the key it has what it had
pub found_none : (cs : List Change) (q : List ℕ) (before : Option (List ℕ))
    → has_key q cs ≡ false → found cs q before ≡ before
found_none [] q before none = refl
found_none (c ∷ cs) q before none = at (same_key q c.key) none (λ h. found_none cs q before h)
  where
    at : (b : Bool) → (b || has_key q cs) ≡ false
        → (has_key q cs ≡ false → found cs q before ≡ before)
        → found cs q (cond b c.value before) ≡ before
    at true h rest = absurd (both_ways true h refl)
    at false h rest = rest h

-- with one it does not matter what it had
pub found_same : (cs : List Change) (q : List ℕ) (a b : Option (List ℕ))
    → has_key q cs ≡ true → found cs q a ≡ found cs q b
found_same [] q a b some = absurd (both_ways false refl some)
found_same (c ∷ cs) q a b some = at (same_key q c.key) some (λ h. found_same cs q a b h)
  where
    at : (t : Bool) → (t || has_key q cs) ≡ true
        → (has_key q cs ≡ true → found cs q a ≡ found cs q b)
        → found cs q (cond t c.value a) ≡ found cs q (cond t c.value b)
    at true h rest = refl
    at false h rest = rest h

-- ---- live changes

-- a key that no change has, no live one has
pub live_lacks : (cs : List Change) (q : List ℕ) → has_key q cs ≡ false
    → has_key q (live cs) ≡ false
live_lacks [] q none = refl
live_lacks (c ∷ cs) q none =
    at (same_key q c.key) (is_live (Some c) cs) refl none (λ h. live_lacks cs q h)
  where
    at : (t alive : Bool) → same_key q c.key ≡ t → (t || has_key q cs) ≡ false
        → (has_key q cs ≡ false → has_key q (live cs) ≡ false)
        → has_key q (cond alive (c ∷ live cs) (live cs)) ≡ false
    at true alive e h rest = absurd (both_ways true h refl)
    at false true e h rest = ap (λ b. b || has_key q (live cs)) e ∙ rest h
    at false false e h rest = rest h

-- the live changes give each key what all give it
pub live_found : (cs : List Change) (q : List ℕ)
    → found (live cs) q None ≡ found cs q None
live_found [] q = refl
live_found (c ∷ cs) q =
    at (same_key q c.key) refl (has_key c.key cs) refl c.value refl (live_found cs q)
  where
    later : Bool → Bool → List Change
    later some has = cond (some && not has) (c ∷ live cs) (live cs)

    at : (t : Bool) → same_key q c.key ≡ t → (has : Bool) → has_key c.key cs ≡ has
        → (v : Option (List ℕ)) → c.value ≡ v → found (live cs) q None ≡ found cs q None
        → found (later (is_some v) has) q None ≡ found cs q (cond t v None)
    at false e has h None is rest = rest
    at false e true h (Some v) is rest = rest
    at false e false h (Some v) is rest =
        ap (λ b. found (live cs) q (cond b c.value None)) e ∙ rest
    at true e true h v is rest = elim (cases_Bool (is_some v)) [
      | inl some ↦ ap (λ b. found (later b true) q None) some ∙ rest
          ∙ found_same cs q None v (ap (λ k. has_key k cs) (same_keys q c.key e) ∙ h)
      | inr none ↦ ap (λ b. found (later b true) q None) none ∙ rest
          ∙ found_same cs q None v (ap (λ k. has_key k cs) (same_keys q c.key e) ∙ h)
    ]
    at true e false h None is rest = rest
    at true e false h (Some v) is rest =
        let none : has_key q cs ≡ false = ap (λ k. has_key k cs) (same_keys q c.key e) ∙ h in
        ap (λ b. found (live cs) q (cond b c.value None)) e
        ∙ ap (found (live cs) q) is
        ∙ found_none (live cs) q (Some v) (live_lacks cs q none)
        ∙ sym (found_none cs q (Some v) none)

-- so they make the same map
pub live_map : (cs : List Change) → map_after no_keys (live cs) ≡ map_after no_keys cs
live_map cs =
    same_map nat_list_cmp_total (slice_cmp-IsAntisymmetric nat_cmp-IsAntisymmetric)
    (map_after no_keys (live cs)) (map_after no_keys cs) (λ q.
    get_after no_keys (live cs) q
    ∙ ap (found (live cs) q) (get-empty (slice_cmp nat_cmp) q)
    ∙ live_found cs q
    ∙ sym (get_after no_keys cs q ∙ ap (found cs q) (get-empty (slice_cmp nat_cmp) q)))

-- it has as many keys more as there are live changes, where it had none of theirs
live_more : (m : Map) (cs : List Change)
    → ((q : List ℕ) → has_key q (live cs) ≡ true → get m q ≡ None)
    → len (map_after m (live cs)) ≡ len m + length (live cs)
live_more m [] fresh = omega arith
live_more m (c ∷ cs) fresh =
    at (has_key c.key cs) refl c.value refl (λ n f. live_more n cs f) fresh
  where
    new : (v : List ℕ) → has_key c.key cs ≡ false → (q : List ℕ) → has_key q (live cs) ≡ true
        → (get m q ≡ None) → (t : Bool) → same_key q c.key ≡ t
        → cond t (Some v) (get m q) ≡ None
    new v h q has absent true e =
        let none : has_key q (live cs) ≡ false = ap (λ k. has_key k (live cs)) (same_keys q c.key e)
        ∙ live_lacks cs c.key h in
        absurd (both_ways (has_key q (live cs)) none has)
    new v h q has absent false e = absent

    kept : (q : List ℕ) → has_key q (live cs) ≡ true → (same_key q c.key || has_key q (live cs)) ≡ true
    kept q has = or_right (same_key q c.key) (has_key q (live cs)) has

    later : Bool → Bool → List Change
    later some has = cond (some && not has) (c ∷ live cs) (live cs)

    at : (has : Bool) → has_key c.key cs ≡ has → (v : Option (List ℕ)) → c.value ≡ v
        → ((n : Map) → ((q : List ℕ) → has_key q (live cs) ≡ true → get n q ≡ None)
        → len (map_after n (live cs)) ≡ len n + length (live cs))
        → ((q : List ℕ) → has_key q (later (is_some v) has) ≡ true → get m q ≡ None)
        → len (map_after m (later (is_some v) has)) ≡ len m + length (later (is_some v) has)
    at has h None is rest free = rest m free
    at true h (Some v) is rest free = rest m free
    at false h (Some v) is rest free =
        let n : Map = insert m c.key v in
        let same : changed m c ≡ n = ap (with_value m c.key) is in
        let absent : get m c.key ≡ None = free c.key (ap (λ b. b || has_key c.key (live cs)) (key_itself c.key)) in
        let longer : len n ≡ len m + 1 = len-insert nat_list_cmp_total m c.key v
        ∙ ap (λ (o : Option (List ℕ)). cond (is_some o) (len m) (len m + 1)) absent in
        let on : len (map_after n (live cs)) ≡ len n + length (live cs) = rest n (λ q has.
        get-insert nat_list_cmp_total m c.key v q
        ∙ new v h q has (free q (kept q has)) (same_key q c.key) refl) in
        ap (λ (x : Map). len (map_after x (live cs))) same ∙ on ∙ omega (arith, longer)

-- the map of changes has as many keys as there are live ones
pub live_len : (cs : List Change) → len (map_after no_keys cs) ≡ length (live cs)
live_len cs =
    ap len (sym (live_map cs))
    ∙ live_more no_keys cs (λ q has. get-empty (slice_cmp nat_cmp) q)
    ∙ omega (arith, len-empty (slice_cmp nat_cmp) (List ℕ))
