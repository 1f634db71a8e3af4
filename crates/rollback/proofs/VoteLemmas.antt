-- What boots is told by two votes: the sequences of the entries that still count once a boot has made
-- its rewrites.
use Rattle.std.proofs.Common.{◌==◌, ◌≡◌, ◌⊎◌, inl, inr, ℕ, zero, suc, true, false, max, List, [], ◌∷◌, ◌++◌, length, Option, Some, None, refl, ap, ◌∙◌, if◌then◌else◌, arith}
use Rattle.std.proofs.lemmas.Bool.{cases_Bool}
use Rattle.std.proofs.lemmas.Bool.Decides.{nat_tests}
use Rattle.std.proofs.lemmas.Grind.{common_steps}
use Rattle.otadata.specs.declared.entry.Entry.{Entry}
use Rattle.otadata.specs.Choice.{active_of, is_valid, matches, slot_named}
use Rattle.partition_table.specs.declared.app.App.{App}
use Rattle.partition_table.specs.declared.app.App.TheVariants.{Ota, Factory}
use Rattle.partition_table.specs.Layout.{Places}
use Rattle.boot_select.specs.Choice.{named_of}
use Rattle.boot_select.specs.Candidates.{candidates}
use Rattle.boot_select.specs.Boots.{Images, first_held, names}
use Rattle.rollback.specs.declared.rewrite.Rewrite.{Rewrite}
use Rattle.rollback.specs.Rewrite.{changed, with_state, written}
use Rattle.rollback.specs.Boot.{aborts, begin, begin_by, begin_in, boot_writes, given_up}
use Rattle.rollback.specs.Boots.{after_boot, boots}
use Rattle.rollback.proofs.BootLemmas.{aborted_0, aborted_1}

-- the sequence of an entry that counts
abbrev pub counted : Entry → Option ℕ
counted e = if is_valid e then Some e.seq else None

-- the sequence of an entry that still counts after a boot's rewrites
abbrev pub vote : Entry → Option ℕ
vote e = if e.state == 1 then None else counted e

-- the greater one of two votes
abbrev pub pick : Option ℕ → Option ℕ → Option ℕ
pick None None = None
pick None (Some b) = Some b
pick (Some a) None = Some a
pick (Some a) (Some b) = Some (max a b)

-- the application that a vote names
abbrev pub named_seq : Places → Option ℕ → App
named_seq layout None = Factory
named_seq layout (Some seq) = Ota (slot_named seq (length layout.slots))

-- the application that two entries name is that of the greater sequence that counts
named_pick : (layout : Places) (e f : Entry)
    → named_of layout e f ≡ named_seq layout (pick (counted e) (counted f))
unfolding named_of active_of
named_pick layout e f = at (cases_Bool (is_valid e)) (cases_Bool (is_valid f))
  where
    at : (is_valid e ≡ true) ⊎ (is_valid e ≡ false) → (is_valid f ≡ true) ⊎ (is_valid f ≡ false)
        → named_of layout e f ≡ named_seq layout (pick (counted e) (counted f))
    at (inl p) (inl q) = rw (p, q) (grind (arith, nat_tests, common_steps))
    at (inl p) (inr q) = rw (p, q) refl
    at (inr p) (inl q) = rw (p, q) refl
    at (inr p) (inr q) = rw (p, q) refl

-- the state plays no part in it, where it is neither INVALID nor ABORTED before and after
begun_counts : (e : Entry) → e.state ≡ 0 → counted (with_state 1 e) ≡ counted e
unfolding is_valid matches
begun_counts e new = rw new refl

-- an entry that is given up does not count
given_up_votes : (e : Entry) → counted (given_up e) ≡ vote e
unfolding is_valid
given_up_votes e = at (cases_Bool (e.state == 1))
  where
    at : ((e.state == 1) ≡ true) ⊎ ((e.state == 1) ≡ false) → counted (given_up e) ≡ vote e
    at (inl p) = rw p (grind (arith, nat_tests, common_steps))
    at (inr p) = rw p refl

-- rewrites one after the other
written_append : (ws vs : List Rewrite) (es : ℕ → Entry)
    → written (ws ++ vs) es ≡ written vs (written ws es)
written_append [] vs es = refl
written_append (w ∷ ws) vs es = written_append ws vs (changed w es)

-- that the active entry begins to wait does not change what counts
begin_counts : (gs : ℕ → Entry) (active : Option ℕ) (k : ℕ)
    → counted (written (begin_by (gs 0) (gs 1) active) gs k) ≡ counted (gs k)
begin_counts gs None k = refl
begin_counts gs (Some zero) k = at (cases_Bool ((gs 0).state == 0)) (cases_Bool (k == 0))
  where
    at : (((gs 0).state == 0) ≡ true) ⊎ (((gs 0).state == 0) ≡ false) → ((k == 0) ≡ true)
        ⊎ ((k == 0) ≡ false)
        → counted (written (begin_in 0 (gs 0)) gs k) ≡ counted (gs k)
    at (inl p) (inl q) =
        let new : (gs 0).state ≡ 0 = grind (arith, nat_tests) in
        let same : k ≡ 0 = grind (arith, nat_tests) in
        rw (p, q, same) (begun_counts (gs 0) new)
    at (inl p) (inr q) = rw (p, q) refl
    at (inr p) q = rw p refl
begin_counts gs (Some (suc n)) k = at (cases_Bool ((gs 1).state == 0)) (cases_Bool (k == 1))
  where
    at : (((gs 1).state == 0) ≡ true) ⊎ (((gs 1).state == 0) ≡ false) → ((k == 1) ≡ true)
        ⊎ ((k == 1) ≡ false)
        → counted (written (begin_in 1 (gs 1)) gs k) ≡ counted (gs k)
    at (inl p) (inl q) =
        let new : (gs 1).state ≡ 0 = grind (arith, nat_tests) in
        let same : k ≡ 1 = grind (arith, nat_tests) in
        rw (p, q, same) (begun_counts (gs 1) new)
    at (inl p) (inr q) = rw (p, q) refl
    at (inr p) q = rw p refl

-- the entries once a boot has made its rewrites, by those once it has aborted what waits
boot_parts : (es : ℕ → Entry) → after_boot es
    ≡ written (begin (written (aborts es) es 0) (written (aborts es) es 1)) (written (aborts es) es)
unfolding boot_writes
boot_parts es = written_append (aborts es) _ es

-- what counts once a boot has made its rewrites are the votes
pub boot_votes_0 : (es : ℕ → Entry) → counted (after_boot es 0) ≡ vote (es 0)
boot_votes_0 es =
    let gs = written (aborts es) es in
    ap (λ f. counted (f 0)) (boot_parts es) ∙ begin_counts gs (active_of (gs 0) (gs 1)) 0
    ∙ ap counted (aborted_0 es) ∙ given_up_votes (es 0)

pub boot_votes_1 : (es : ℕ → Entry) → counted (after_boot es 1) ≡ vote (es 1)
boot_votes_1 es =
    let gs = written (aborts es) es in
    ap (λ f. counted (f 1)) (boot_parts es) ∙ begin_counts gs (active_of (gs 0) (gs 1)) 1
    ∙ ap counted (aborted_1 es) ∙ given_up_votes (es 1)

-- what the entries name once a boot has made its rewrites
pub boot_names : (layout : Places) (es : ℕ → Entry)
    → names layout (after_boot es) ≡ named_seq layout (pick (vote (es 0)) (vote (es 1)))
boot_names layout es =
    named_pick layout (after_boot es 0) (after_boot es 1)
    ∙ ap (λ v. named_seq layout (pick v (counted (after_boot es 1)))) (boot_votes_0 es)
    ∙ ap (λ v. named_seq layout (pick (vote (es 0)) v)) (boot_votes_1 es)

-- what boots is told by the votes
pub boots_votes : (layout : Places) (images : Images) (es : ℕ → Entry)
    → boots layout images es
    ≡ first_held images (candidates layout (named_seq layout (pick (vote (es 0)) (vote (es 1)))))
unfolding boots
boots_votes layout images es = ap (λ app. first_held images (candidates layout app))
    (boot_names layout es)

-- the greater vote, whichever comes first
pub pick_swap : (a b : Option ℕ) → pick a b ≡ pick b a
pick_swap None None = refl
pick_swap None (Some b) = refl
pick_swap (Some a) None = refl
pick_swap (Some a) (Some b) = let same : max a b ≡ max b a = omega arith in ap Some same
