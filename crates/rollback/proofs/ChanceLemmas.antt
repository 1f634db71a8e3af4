-- What a loss of power in the rewrite of an entry may make of what boots: whatever entry is found, what
-- boots is what the VALID or the INVALID one gives, or the one that is found matches by chance.
use Rattle.std.proofs.Common.{◌==◌, ◌≡◌, ◌≢◌, ◌⊎◌, inl, inr, ℕ, zero, suc, ◌<◌, true, false, Some, None, refl, sym, ap, ◌∙◌, arith}
use Rattle.std.proofs.lemmas.Bool.{cases_Bool}
use Rattle.std.proofs.lemmas.Bool.Decides.{nat_tests}
use Rattle.std.proofs.lemmas.Grind.{common_steps}
use Rattle.otadata.specs.declared.entry.Entry.{Entry}
use Rattle.otadata.specs.Choice.{IsValid, Matches, is_valid}
use Rattle.otadata.proofs.ChoiceLemmas.{matches_or_not, valid}
use Rattle.partition_table.specs.Layout.{Places}
use Rattle.boot_select.specs.Candidates.{candidates}
use Rattle.boot_select.specs.Boots.{Images, first_held}
use Rattle.rollback.specs.Rewrite.{with_state}
use Rattle.rollback.specs.Boots.{BootsByVerdict, IsChance, boots, in_state}
use Rattle.rollback.specs.Pair.{other_of}
use Rattle.rollback.proofs.VoteLemmas.{boots_votes, named_seq, pick, pick_swap, vote}

-- ---- votes

-- an entry has no vote, or that of its sequence
pub vote_cases : (e : Entry) → (vote e ≡ None) ⊎ (vote e ≡ Some e.seq)
vote_cases e = at (cases_Bool (e.state == 1)) (cases_Bool (is_valid e))
  where
    at : ((e.state == 1) ≡ true) ⊎ ((e.state == 1) ≡ false) → (is_valid e ≡ true)
        ⊎ (is_valid e ≡ false)
        → (vote e ≡ None) ⊎ (vote e ≡ Some e.seq)
    at (inl p) q = inl (rw p refl)
    at (inr p) (inl q) = inr (rw (p, q) refl)
    at (inr p) (inr q) = inl (rw (p, q) refl)

-- an entry that counts and does not wait has a vote
pub valid_vote : (e : Entry) → IsValid e → e.state ≢ 1 → vote e ≡ Some e.seq
valid_vote e fact other = let is = (valid e).1 fact in grind (arith, nat_tests, is)

-- an entry that does not count has none
pub invalid_vote : (e : Entry) → (¬ IsValid e) → vote e ≡ None
invalid_vote e lacks = at (cases_Bool (is_valid e))
  where
    at : (is_valid e ≡ true) ⊎ (is_valid e ≡ false) → vote e ≡ None
    at (inl p) = absurd (lacks ((valid e).0 (grind (arith, nat_tests))))
    at (inr p) = rw p (grind (arith, nat_tests, common_steps))

-- an entry that does not match has none
pub unmatched_vote : (e : Entry) → (¬ Matches e) → vote e ≡ None
unmatched_vote e lacks = invalid_vote e (λ fact. lacks fact.matches)

-- an entry in VALID that matches has the vote of its sequence
pub confirmed_vote : (e : Entry) → Matches e → vote (with_state 2 e) ≡ Some e.seq
confirmed_vote e fact =
    valid_vote (with_state 2 e) (record {
      matches = record { crc_fits = fact.crc_fits; numbered = fact.numbered; written = fact.written };
      not_rejected = omega arith;
      not_given_up = omega arith;
    }) (omega arith)

-- an entry in INVALID has none
pub rejected_vote : (e : Entry) → vote (with_state 3 e) ≡ None
rejected_vote e = invalid_vote (with_state 3 e) (λ fact. fact.not_rejected refl)

-- an entry in ABORTED has none
pub given_up_vote : (e : Entry) → vote (with_state 4 e) ≡ None
given_up_vote e = invalid_vote (with_state 4 e) (λ fact. fact.not_given_up refl)

-- ---- by the votes of one sector and of the other

-- what boots, by the votes of a sector and of the other one
pub boots_at : (layout : Places) (images : Images) (es : ℕ → Entry) (y : ℕ) → y < 2
    → boots layout images es
    ≡ first_held images (candidates layout (named_seq layout (pick (vote (es y))
    (vote (es (other_of y))))))
boots_at layout images es zero two = boots_votes layout images es
boots_at layout images es (suc zero) two =
    boots_votes layout images es
    ∙ ap (λ v. first_held images (candidates layout (named_seq layout v))) (pick_swap (vote (es 0))
    (vote (es 1)))
boots_at layout images es (suc (suc n)) two = absurd (omega arith)

-- what boots is the same where the votes of both sectors are
pub same_votes : (layout : Places) (images : Images) (es gs : ℕ → Entry) (y : ℕ) → y < 2
    → vote (gs y) ≡ vote (es y) → vote (gs (other_of y)) ≡ vote (es (other_of y))
    → boots layout images gs ≡ boots layout images es
same_votes layout images es gs y two same other =
    boots_at layout images gs y two
    ∙ ap (λ v. first_held images (candidates layout (named_seq layout (pick v (vote (gs (other_of y))))))) same
    ∙ ap (λ v. first_held images (candidates layout (named_seq layout (pick (vote (es y)) v)))) other
    ∙ sym (boots_at layout images es y two)

-- the entry of the sector itself is changed, and that of the other one stays
pub changed_here : (state y : ℕ) (es : ℕ → Entry) → in_state state y es y ≡ with_state state (es y)
changed_here state y es = at (cases_Bool (y == y))
  where
    at : ((y == y) ≡ true) ⊎ ((y == y) ≡ false) → in_state state y es y ≡ with_state state (es y)
    at (inl p) = rw p refl
    at (inr p) = absurd (grind (arith, nat_tests))

pub changed_there : (state y : ℕ) (es : ℕ → Entry) → y < 2
    → in_state state y es (other_of y) ≡ es (other_of y)
changed_there state zero es two = refl
changed_there state (suc zero) es two = refl
changed_there state (suc (suc n)) es two = absurd (omega arith)

-- ---- the clause

-- an entry that is found matches by chance, or it does not match, or it has the sequence of the old
-- entry or of the new one, which matches
pub chance_or : (old new found : Entry) → IsChance old new found ⊎ ((¬ Matches found)
    ⊎ ((Matches old × (found.seq ≡ old.seq)) ⊎ (Matches new × (found.seq ≡ new.seq))))
chance_or old new found = at (matches_or_not found) (matches_or_not old) (matches_or_not new)
  where
    at : Matches found ⊎ (¬ Matches found) → Matches old ⊎ (¬ Matches old) → Matches new
        ⊎ (¬ Matches new)
        → IsChance old new found ⊎ ((¬ Matches found)
        ⊎ ((Matches old × (found.seq ≡ old.seq)) ⊎ (Matches new × (found.seq ≡ new.seq))))
    at (inr lacks) before after = inr (inl lacks)
    at (inl fits) (inr no_old) (inr no_new) =
        inl (record { matches = fits; not_old = λ is. absurd (no_old is); not_new = λ is. absurd (no_new is) })
    at (inl fits) (inl is_old) (inr no_new) = elim (cases_Bool (found.seq == old.seq)) [
      | inl p ↦ inr (inr (inl (is_old, grind (arith, nat_tests))))
      | inr p ↦ inl (record { matches = fits; not_old = λ is. grind (arith, nat_tests); not_new = λ is. absurd (no_new is) })
    ]
    at (inl fits) (inr no_old) (inl is_new) = elim (cases_Bool (found.seq == new.seq)) [
      | inl p ↦ inr (inr (inr (is_new, grind (arith, nat_tests))))
      | inr p ↦ inl (record { matches = fits; not_old = λ is. absurd (no_old is); not_new = λ is. grind (arith, nat_tests) })
    ]
    at (inl fits) (inl is_old) (inl is_new) = elim (cases_Bool (found.seq == old.seq)) [
      | inl p ↦ inr (inr (inl (is_old, grind (arith, nat_tests))))
      | inr p ↦ elim (cases_Bool (found.seq == new.seq)) [
        | inl q ↦ inr (inr (inr (is_new, grind (arith, nat_tests))))
        | inr q ↦ inl (record { matches = fits; not_old = λ is. grind (arith, nat_tests); not_new = λ is. grind (arith, nat_tests) })
      ]
    ]

-- whatever is found in a sector whose entry is rewritten with another state: what boots is what the
-- VALID entry or the INVALID one gives, or what is found matches by chance
pub verdict-or_chance : (layout : Places) (images : Images) (es gs : ℕ → Entry) (y state : ℕ)
    → y < 2
    → gs (other_of y) ≡ es (other_of y)
    → IsChance (es y) (with_state state (es y)) (gs y)
    ⊎ BootsByVerdict layout images es y (boots layout images gs)
verdict-or_chance layout images es gs y state two other =
    at (chance_or (es y) (with_state state (es y)) (gs y)) (vote_cases (gs y))
  where
    by_rejected : vote (gs y) ≡ None → BootsByVerdict layout images es y (boots layout images gs)
    by_rejected none =
        let here : vote (gs y) ≡ vote (in_state 3 y es y) =
        none ∙ sym (rejected_vote (es y)) ∙ sym (ap vote (changed_here 3 y es)) in
        let there : vote (gs (other_of y)) ≡ vote (in_state 3 y es (other_of y)) =
        ap vote (other ∙ sym (changed_there 3 y es two)) in
        inr (same_votes layout images (in_state 3 y es) gs y two here there)

    by_confirmed : Matches (es y) → vote (gs y) ≡ Some (gs y).seq → (gs y).seq ≡ (es y).seq
        → BootsByVerdict layout images es y (boots layout images gs)
    by_confirmed fits some same =
        let here : vote (gs y) ≡ vote (in_state 2 y es y) =
        some ∙ ap Some same ∙ sym (confirmed_vote (es y) fits)
        ∙ sym (ap vote (changed_here 2 y es)) in
        let there : vote (gs (other_of y)) ≡ vote (in_state 2 y es (other_of y)) =
        ap vote (other ∙ sym (changed_there 2 y es two)) in
        inl (same_votes layout images (in_state 2 y es) gs y two here there)

    at : IsChance (es y) (with_state state (es y)) (gs y) ⊎ ((¬ Matches (gs y))
        ⊎ ((Matches (es y) × ((gs y).seq ≡ (es y).seq)) ⊎ (Matches (with_state state (es y))
        × ((gs y).seq ≡ (es y).seq))))
        → (vote (gs y) ≡ None) ⊎ (vote (gs y) ≡ Some (gs y).seq)
        → IsChance (es y) (with_state state (es y)) (gs y)
        ⊎ BootsByVerdict layout images es y (boots layout images gs)
    at (inl chance) voted = inl chance
    at (inr (inl lacks)) voted = inr (by_rejected (unmatched_vote (gs y) lacks))
    at (inr (inr fits)) (inl none) = inr (by_rejected none)
    at (inr (inr (inl old))) (inr some) = inr (by_confirmed old.0 some old.1)
    at (inr (inr (inr new))) (inr some) =
        let same : Matches (es y) = record { crc_fits = new.0.crc_fits; numbered = new.0.numbered; written = new.0.written } in
        inr (by_confirmed same some new.1)
