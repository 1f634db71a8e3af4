-- Two seats at one table: dealt at the start, found while both are out, joined and closed at the
-- end.
use Rattle.std.proofs.Common.{◌≡◌, ℕ, zero, suc, ◌⊎◌, ap, subst, sym, refl, inl, inr, List, [], ◌∷◌, ◌++◌, slice_set}
use mathlib.Core.Option.{Option, some, some-injective, some-ne-none}
use lib.ListN.{get_elem?}
use Rattle.atomic_table.specs.Table.{State, Splits, Joins, Final, Seen}
use Rattle.core_state.specs.TwoSeats.{IsStart, IsPair, IsEnd, HasTwoSeats}

module _ {V : Type 0} where
  -- the one view that a seat finds
  at_one : (u v : V) (id : ℕ) → get_elem? (u ∷ []) id ≡ some v → u ≡ v
  at_one u v zero e = some-injective u v e
  at_one u v (suc id) e = absurd (some-ne-none v (sym e))

  -- the one of two views that a seat finds
  at_two : (a b v : V) (id : ℕ) → get_elem? (a ∷ b ∷ []) id ≡ some v
      → ((id ≡ 0) × (a ≡ v)) ⊎ ((id ≡ 1) × (b ≡ v))
  at_two a b v zero e = inl (refl, some-injective a v e)
  at_two a b v (suc zero) e = inr (refl, some-injective b v e)
  at_two a b v (suc (suc id)) e = absurd (some-ne-none v (sym e))

module _
    {S V : Type 0} (fresh spent : V) (IsOne IsBoth : V → Type 0)
    (Start : List ℕ → List (Option S) → Type 0)
    (Pair : List ℕ → List (Option S) → V → V → Type 0)
    (End : List ℕ → List (Option S) → V → Type 0)
    (fresh_one : IsOne fresh → ⊥) (spent_one : IsOne spent → ⊥)
    (both_one : (v : V) → IsBoth v → IsOne v → ⊥)
    (fresh_both : IsBoth fresh → ⊥) (spent_both : IsBoth spent → ⊥)
    (spent_fresh : spent ≡ fresh → ⊥)
  where
    abbrev St : Type 0
    St = State S V

    abbrev Ruled : St → Type 0
    Ruled s = HasTwoSeats fresh spent IsOne IsBoth Start Pair End s

    found_in : (s : St) (id : ℕ) (v : V) (vs : List V) → s.views ≡ vs
        → get_elem? s.views id ≡ some v → get_elem? vs id ≡ some v
    found_in s id v vs e at = subst (λ xs. get_elem? xs id ≡ some v) e at

    -- no view of one seat is among those of the start or of the end
    none_at_start : (s : St) (id : ℕ) (v : V) → IsStart fresh Start s → IsOne v
        → get_elem? s.views id ≡ some v → ⊥
    none_at_start s id v f one at =
        fresh_one (subst IsOne (sym (at_one fresh v id (found_in s id v _ f.views at))) one)

    none_at_end : (s : St) (id : ℕ) (v : V) → IsEnd spent IsBoth End s → IsOne v
        → get_elem? s.views id ≡ some v → ⊥
    none_at_end s id v j one at = by_place j.views
      where
        joined_is : j.joined ≡ v → ⊥
        joined_is e = both_one j.joined j.is_both (subst IsOne (sym e) one)

        spent_is : spent ≡ v → ⊥
        spent_is e = spent_one (subst IsOne (sym e) one)

        by_place : (s.views ≡ j.joined ∷ spent ∷ []) ⊎ (s.views ≡ spent ∷ j.joined ∷ []) → ⊥
        by_place (inl e) = elim (at_two j.joined spent v id (found_in s id v _ e at)) [
          | inl a ↦ joined_is a.1
          | inr a ↦ spent_is a.1
        ]
        by_place (inr e) = elim (at_two spent j.joined v id (found_in s id v _ e at)) [
          | inl a ↦ spent_is a.1
          | inr a ↦ joined_is a.1
        ]

    -- a state in which a seat has the view of one core has two views, and this is one of them
    pub pair_at : (s : State S V) (id : ℕ) (v : V)
        → HasTwoSeats fresh spent IsOne IsBoth Start Pair End s → IsOne v
        → get_elem? s.views id ≡ some v
        → (p : IsPair IsOne Pair s) × (((id ≡ 0) × (p.left ≡ v)) ⊎ ((id ≡ 1) × (p.right ≡ v)))
    pair_at s id v (inl f) one at = absurd (none_at_start s id v f one at)
    pair_at s id v (inr (inl p)) one at =
        (p, at_two p.left p.right v id (found_in s id v _ p.views at))
    pair_at s id v (inr (inr j)) one at = absurd (none_at_end s id v j one at)

    -- two seats are dealt in place of the first one
    pub deals : (id : ℕ) (a b : V) → IsOne a → IsOne b
        → ((ws : List ℕ) (hs : List (Option S)) → Start ws hs → Pair ws hs a b)
        → Splits (HasTwoSeats fresh spent IsOne IsBoth Start Pair End) id fresh a b
    deals id a b one one' pairs = λ s r at. from s r at
      where
        Dealt : St → ℕ → Type 0
        Dealt s id = Ruled
            (record { words = s.words; homes = s.homes; views = slice_set s.views id a ++ b ∷ [] })

        dealt_at : (s : St) (id : ℕ) → IsStart fresh Start s
            → get_elem? (fresh ∷ []) id ≡ some fresh → Dealt s id
        dealt_at s zero f e = inr (inl (record {
          left = a;
          right = b;
          views = ap (λ vs. slice_set vs 0 a ++ b ∷ []) f.views;
          ones = (one, one');
          there = pairs s.words s.homes f.there;
        }))
        dealt_at s (suc id) f e = absurd (some-ne-none fresh (sym e))

        from : (s : St) → Ruled s → get_elem? s.views id ≡ some fresh → Dealt s id
        from s (inl f) at = dealt_at s id f (found_in s id fresh _ f.views at)
        from s (inr (inl p)) at = elim (at_two p.left p.right fresh id
            (found_in s id fresh _ p.views at)) [
              | inl e ↦ absurd (fresh_one (subst IsOne e.1 p.ones.0))
              | inr e ↦ absurd (fresh_one (subst IsOne e.1 p.ones.1))
            ]
        from s (inr (inr j)) at = absurd (by_place j.views)
          where
            joined_is : j.joined ≡ fresh → ⊥
            joined_is e = fresh_both (subst IsBoth e j.is_both)

            by_place : (s.views ≡ j.joined ∷ spent ∷ []) ⊎ (s.views ≡ spent ∷ j.joined ∷ []) → ⊥
            by_place (inl e) = elim (at_two j.joined spent fresh id (found_in s id fresh _ e at)) [
              | inl x ↦ joined_is x.1
              | inr x ↦ spent_fresh x.1
            ]
            by_place (inr e) = elim (at_two spent j.joined fresh id (found_in s id fresh _ e at)) [
              | inl x ↦ spent_fresh x.1
              | inr x ↦ joined_is x.1
            ]

    -- one seat takes in the other, whichever of the two it is
    pub joins : (id id' : ℕ) (v w both : V) → IsOne v → IsBoth both
        → ((ws : List ℕ) (hs : List (Option S)) → Pair ws hs v w → End ws hs both)
        → ((ws : List ℕ) (hs : List (Option S)) → Pair ws hs w v → End ws hs both)
        → Joins (HasTwoSeats fresh spent IsOne IsBoth Start Pair End) id v id' w both spent
    joins id id' v w both one is_both left_ends right_ends =
        λ s r at apart at'. from s id id' r at apart at'
      where
        After : St → List V → ℕ → ℕ → Type 0
        After s vs id id' = Ruled
            (record {
              words = s.words;
              homes = s.homes;
              views =
                  slice_set (slice_set vs id both) id' spent;
            })

        of_pair : (s : St) (p : IsPair IsOne Pair s) (id id' : ℕ)
            → get_elem? (p.left ∷ p.right ∷ []) id ≡ some v → (id' ≡ id → ⊥)
            → get_elem? (slice_set (p.left ∷ p.right ∷ []) id both) id' ≡ some w
            → After s (p.left ∷ p.right ∷ []) id id'
        of_pair s p zero zero a apart b = absurd (apart refl)
        of_pair s p zero (suc zero) a apart b =
            let e = some-injective p.left v a in let f = some-injective p.right w b in
            inr (inr (record {
              joined = both;
              views = inl refl;
              is_both = is_both;
              there = left_ends s.words s.homes
                  (subst (λ (z : V × V). Pair s.words s.homes z.0 z.1) (λ k. (e k, f k)) p.there);
            }))
        of_pair s p (suc zero) zero a apart b =
            let e = some-injective p.right v a in let f = some-injective p.left w b in
            inr (inr (record {
              joined = both;
              views = inr refl;
              is_both = is_both;
              there = right_ends s.words s.homes
                  (subst (λ (z : V × V). Pair s.words s.homes z.0 z.1) (λ k. (f k, e k)) p.there);
            }))
        of_pair s p (suc zero) (suc zero) a apart b = absurd (apart refl)
        of_pair s p zero (suc (suc n)) a apart b = absurd (some-ne-none w (sym b))
        of_pair s p (suc zero) (suc (suc n)) a apart b = absurd (some-ne-none w (sym b))
        of_pair s p (suc (suc n)) id' a apart b = absurd (some-ne-none v (sym a))

        from : (s : St) (id id' : ℕ) → Ruled s → get_elem? s.views id ≡ some v → (id' ≡ id → ⊥)
            → get_elem? (slice_set s.views id both) id' ≡ some w → After s s.views id id'
        from s id id' (inl f) at apart at' = absurd (none_at_start s id v f one at)
        from s id id' (inr (inl p)) at apart at' =
            subst (λ vs. After s vs id id') (sym p.views)
            (of_pair s p id id' (found_in s id v _ p.views at) apart
            (subst (λ xs. get_elem? (slice_set xs id both) id' ≡ some w) p.views at'))
        from s id id' (inr (inr j)) at apart at' = absurd (none_at_end s id v j one at)

    -- what words and slots are at the end, where a seat's view is of both
    pub closes : (id : ℕ) (u : V) (ws : List ℕ) (xs : List S) → IsBoth u
        → Final (Seen (HasTwoSeats fresh spent IsOne IsBoth Start Pair End) id u) ws xs
        → (hs : List (Option S)) × End ws hs u
        × ((k : ℕ) (y : S) → get_elem? hs k ≡ some (some y) → get_elem? xs k ≡ some y)
    closes id u ws xs is_both (s, (r, at), words, sized, home) =
        (s.homes, subst (λ z. End z s.homes u) words (from r), home)
      where
        from : Ruled s → End s.words s.homes u
        from (inl f) =
            absurd (fresh_both
            (subst IsBoth (sym (at_one fresh u id (found_in s id u _ f.views at))) is_both))
        from (inr (inl p)) = elim (at_two p.left p.right u id (found_in s id u _ p.views at)) [
          | inl e ↦ absurd (both_one u is_both (subst IsOne e.1 p.ones.0))
          | inr e ↦ absurd (both_one u is_both (subst IsOne e.1 p.ones.1))
        ]
        from (inr (inr j)) = by_place j.views
          where
            spent_is : spent ≡ u → ⊥
            spent_is e = spent_both (subst IsBoth (sym e) is_both)

            by_place : (s.views ≡ j.joined ∷ spent ∷ []) ⊎ (s.views ≡ spent ∷ j.joined ∷ [])
                → End s.words s.homes u
            by_place (inl e) = elim (at_two j.joined spent u id (found_in s id u _ e at)) [
              | inl x ↦ subst (End s.words s.homes) x.1 j.there
              | inr x ↦ absurd (spent_is x.1)
            ]
            by_place (inr e) = elim (at_two spent j.joined u id (found_in s id u _ e at)) [
              | inl x ↦ absurd (spent_is x.1)
              | inr x ↦ subst (End s.words s.homes) x.1 j.there
            ]
