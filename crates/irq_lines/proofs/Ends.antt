-- The two seats dealt at the start, joined and closed at the end, and the last serves between.
use Rattle.std.proofs.Common.{◌≡◌, Bool, true, false, bit_or, ◌<◌, ◌≤◌, ◌^◌, ℕ, zero, suc, ◌+◌, ◌++◌, ◌∙◌, ap, subst, sym, refl, inl, inr, List, [], ◌∷◌, slice_index, bit_and, append-nil, append_assoc, arith}
use Rattle.std.specs.Prelude.{if◌then◌else◌, ◌==◌}
use Rattle.std.specs.Int.{bit_at, bit_not, w32}
use Rattle.std.proofs.lemmas.Nat.{or_lt, and_le_l}
use Rattle.std.proofs.lemmas.Nat.Bits.{bit_at-lt}
use lib.ListN.{get_elem?}
use mathlib.Core.Option.{some, some-injective}
use Rattle.atomic_table.specs.Table.{Splits, Joins, Final, Seen}
use Rattle.core_state.proofs.TwoSeats as two
use Rattle.irq_lines.specs.declared.view.Act.{Act}
use Rattle.irq_lines.specs.declared.view.Act.TheVariants.{Raised, Served}
use Rattle.irq_lines.specs.declared.view.Entry.{Entry}
use Rattle.irq_lines.specs.declared.view.View.{View}
use Rattle.irq_lines.specs.Views.{fresh, dealt, both_of, spent, IsOne, IsBoth, saw}
use Rattle.irq_lines.specs.Story.{entry, done_by, AreOfBothCores, ArePlain, IsPlain, word_by, word_after, pending, calls_in, served_in, made, raised, served, IsRun, Saw, Apart, Story, Went, Balance}
use Rattle.irq_lines.specs.Rule.{Start, Pair, Joined, Ruled}
use Rattle.irq_lines.specs.Counts.{count_at, AreCounts, AreSums, Adds, IsEven}
use Rattle.irq_lines.specs.Told.{EndsIn}
use Rattle.irq_lines.proofs.Runs.{by_two, counted_append, own_second, word_append, balances}
use Rattle.irq_lines.proofs.Kept.{went_counts, served_bits, raises_kept}
use Rattle.irq_lines.proofs.OneStep.{fresh_one, spent_one, both_one, fresh_both, spent_both, spent_fresh, told_by_other}

-- the run before anything was done
no_run : Story (0 ∷ 0 ∷ []) 0 1 [] []
no_run = record {
  run = [];
  is_run = record { two = tt; plain = tt; few = λ c k l. omega arith };
  numbers = refl;
  saw = record { later = []; splits = refl; none_own = refl };
  saw' = record { later = []; splits = refl; none_own = refl };
}

module _ {S : Type 0} where
  -- the seats are dealt
  pub deals : (id : ℕ) → Splits (Ruled {S = S}) id fresh (dealt 0 1) (dealt 1 0)
  deals id = two.deals fresh spent IsOne IsBoth Start Pair Joined
      fresh_one spent_one (λ v. both_one v.stage) fresh_both spent_both spent_fresh
      id (dealt 0 1) (dealt 1 0) refl refl (λ ws hs start. record {
        left_is = (refl, refl);
        right_is = (refl, refl);
        story = subst (λ ws. Story ws 0 1 [] []) (sym start) no_run;
      })

  -- one seat takes in the other one
  pub joins : (id id' : ℕ) (v w : View) → IsOne v
      → Joins (Ruled {S = S}) id v id' w (both_of v w) spent
  joins id id' v w one = two.joins fresh spent IsOne IsBoth Start Pair Joined
      fresh_one spent_one (λ v. both_one v.stage) fresh_both spent_both spent_fresh
      id id' v w (both_of v w) one refl
      (λ ws hs p. let mine = p.left_is.0 in let theirs = p.right_is.0 in record {
        apart = inl (mine, theirs);
        story = subst (λ (z : ℕ × ℕ). Story ws z.0 z.1 v.seen w.seen)
            (λ k. (sym mine k, sym theirs k)) p.story;
      })
      (λ ws hs p. let mine = p.right_is.0 in let theirs = p.left_is.0 in record {
        apart = inr (mine, theirs);
        story = subst (λ (z : ℕ × ℕ). Story ws z.0 z.1 v.seen w.seen)
            (λ k. (sym mine k, sym theirs k)) (told_by_other p.story);
      })

  -- the last words, and the run that led there
  pub last_story : (id : ℕ) (u : View) (ws : List ℕ) (xs : List S) → IsBoth u
      → Final (Seen (Ruled {S = S}) id u) ws xs
      → Apart u.core u.other × Story ws u.core u.other u.seen u.other_seen
  last_story id u ws xs is_both final =
      let end = two.closes fresh spent IsOne IsBoth Start Pair Joined
      fresh_one spent_one (λ v. both_one v.stage) fresh_both spent_both spent_fresh
      id u ws xs is_both final in (end.1.apart, end.1.story)

-- entries of neither core are none
nothing_more : (c o : ℕ) (es : List Entry) → Apart c o → AreOfBothCores es → done_by c es ≡ []
    → done_by o es ≡ [] → es ≡ []
nothing_more c o [] apart two mine theirs = refl
nothing_more c o (e ∷ es) apart two mine theirs =
    absurd (by_two
    (λ c o. done_by c (e ∷ es) ≡ [] → done_by o (e ∷ es) ≡ [] → ⊥) c o apart
    (λ a b. first e.by two.0 a b) (λ a b. first e.by two.0 b a) mine theirs)
  where
    first : (d : ℕ) → d < 2
        → (if d == 0 then e ∷ done_by 0 es else done_by 0 es) ≡ []
        → (if d == 1 then e ∷ done_by 1 es else done_by 1 es) ≡ [] → ⊥
    first zero small a b = cc a
    first (suc zero) small a b = cc b
    first (suc (suc d)) small a b = absurd (omega arith)

-- what follows the same beginning is the same
cancel : (xs ys zs : List Entry) → xs ++ ys ≡ xs ++ zs → ys ≡ zs
cancel [] ys zs e = e
cancel (x ∷ xs) ys zs e = cancel xs ys zs (tail_of (x ∷ (xs ++ ys)) (x ∷ (xs ++ zs)) e)
  where
    tail : List Entry → List Entry
    tail [] = []
    tail (x ∷ xs) = xs

    tail_of : (a b : List Entry) → a ≡ b → tail a ≡ tail b
    tail_of a b e = ap tail e

-- a part of a run of both cores
two_second : (a b : List Entry) → AreOfBothCores (a ++ b) → AreOfBothCores b
two_second [] b two = two
two_second (x ∷ a) b two = two_second a b two.1

two_first : (a b : List Entry) → AreOfBothCores (a ++ b) → AreOfBothCores a
two_first [] b two = tt
two_first (x ∷ a) b two = (two.0, two_first a b two.1)

plain_first : (a b : List Entry) → ArePlain (a ++ b) → ArePlain a
plain_first [] b plain = tt
plain_first (x ∷ a) b plain = (plain.0, plain_first a b plain.1)

-- a beginning of a run is one
run_first : (a b : List Entry) → IsRun (a ++ b) → IsRun a
run_first a b is = record {
  two = two_first a b is.two;
  plain = plain_first a b is.plain;
  few = λ c k l. let parts = counted_append (calls_in k l) k c 0 a b in let all = is.few c k l in
      omega (arith, parts, all);
}

-- what a core saw before an own step of the other one, and after it more of the same
later_grows : (o : ℕ) (a b seen : List Entry) → Saw a o seen → Saw (a ++ b) o seen
    → done_by o b ≡ []
later_grows o a b seen s t =
    let same : seen ++ (s.later ++ b) ≡ seen ++ t.later =
    sym (append_assoc seen s.later b) ∙ (ap (λ x. x ++ b) (sym s.splits) ∙ t.splits) in
    own_second o s.later b (ap (done_by o) (cancel seen (s.later ++ b) t.later same) ∙ t.none_own)

-- words of a run fit 32 bits
pub word_fits : (k n : ℕ) (es : List Entry) → ArePlain es → n < 2 ^ 32 → word_after k n es < 2 ^ 32
word_fits k n [] plain small = small
word_fits k n (e ∷ es) plain small =
    word_fits k (word_by k n e.act) es plain.1 (one e.act plain.0)
  where
    one : (act : Act) → IsPlain act → word_by k n act < 2 ^ 32
    one (Raised core bits) is = by_core (core == k)
      where
        by_core : (t : Bool) → (if t then bit_or n bits else n) < 2 ^ 32
        by_core true = or_lt 32 n bits small is
        by_core false = small
    one (Served core mask) is = by_core (core == k)
      where
        by_core : (t : Bool) → (if t then bit_and n (bit_not w32 mask) else n) < 2 ^ 32
        by_core true = let le = and_le_l n (bit_not w32 mask) in omega (arith, le)
        by_core false = small

-- the words of a run with two serves at its end
after_both : (run : List Entry) (c first second : ℕ) (masks : List ℕ) → slice_index masks 0 ≡ first
    → slice_index masks 1 ≡ second → (k : ℕ) → k < 2
    → pending ((run ++ entry c (Served 0 first) ∷ []) ++ entry c (Served 1 second) ∷ []) k
    ≡ bit_and (pending run k) (bit_not w32 (slice_index masks k))
after_both run c first second masks e f k small =
    word_append k 0 (run ++ entry c (Served 0 first) ∷ []) (entry c (Served 1 second) ∷ [])
    ∙ (ap (λ n. word_by k n (Served 1 second)) (word_append k 0 run (entry c (Served 0 first) ∷ []))
    ∙ by_core k small (pending run k))
  where
    by_core : (k : ℕ) → k < 2 → (n : ℕ)
        → word_by k (word_by k n (Served 0 first)) (Served 1 second)
        ≡ bit_and n (bit_not w32 (slice_index masks k))
    by_core zero small n = ap (λ m. bit_and n (bit_not w32 m)) (sym e)
    by_core (suc zero) small n = ap (λ m. bit_and n (bit_not w32 m)) (sym f)
    by_core (suc (suc k)) small n = absurd (omega arith)

-- one seat took in the other one, and serves the lines within each mask
module _ (first second n m : ℕ) (u u' u'' : View) (ws : List ℕ) (is_both : IsBoth u)
    (one : Went (Served 0 first) 0 n u u') (same : u' ≡ saw u u'.seen)
    (two : Went (Served 1 second) 1 m u' u'') (same' : u'' ≡ saw u' u''.seen)
    (last : Story ws u''.core u''.other u''.seen u''.other_seen)
  where
    apart : Apart u.core u.other
    apart = (one.beside is_both).0

    abbrev before : List Entry
    before = u.seen ++ one.between

    abbrev serve_one : List Entry
    serve_one = entry u.core (Served 0 first) ∷ []

    abbrev serve_two : List Entry
    serve_two = entry u.core (Served 1 second) ∷ []

    core_is : u'.core ≡ u.core
    core_is = ap (λ x. x.core) same

    core_is' : u''.core ≡ u.core
    core_is' = ap (λ x. x.core) same' ∙ core_is

    other_is : u'.other ≡ u.other
    other_is = ap (λ x. x.other) same

    other_is' : u''.other ≡ u.other
    other_is' = ap (λ x. x.other) same' ∙ other_is

    theirs_is : u'.other_seen ≡ u.other_seen
    theirs_is = ap (λ x. x.other_seen) same

    theirs_is' : u''.other_seen ≡ u.other_seen
    theirs_is' = ap (λ x. x.other_seen) same' ∙ theirs_is

    both' : IsBoth u'
    both' = ap (λ x. x.stage) same ∙ is_both

    -- what the other core did was all there before each serve
    saw_one : Saw before u.other u.other_seen
    saw_one = (one.beside is_both).1

    saw_two : Saw (u'.seen ++ two.between) u.other u.other_seen
    saw_two = subst (λ (z : ℕ × List Entry). Saw (u'.seen ++ two.between) z.0 z.1)
        (λ k. (other_is k, theirs_is k)) (two.beside both').1

    seen_is : u''.seen ≡ (u'.seen ++ two.between) ++ serve_two
    seen_is = two.is ∙ ap (λ c. (u'.seen ++ two.between) ++ entry c (Served 1 second) ∷ []) core_is

    -- so nothing came between them
    nothing_between : two.between ≡ []
    nothing_between = nothing_more u.core u.other two.between apart
        (two_second u'.seen two.between (two_first (u'.seen ++ two.between) serve_two
        (subst AreOfBothCores seen_is two.is_run.two)))
        (subst (λ c. done_by c two.between ≡ []) core_is two.none_own)
        (own_second u.other serve_one two.between
        (later_grows u.other before (serve_one ++ two.between) u.other_seen saw_one
        (subst (λ r. Saw r u.other u.other_seen)
        (ap (λ r. r ++ two.between) one.is ∙ append_assoc before serve_one two.between) saw_two)))

    whole : u''.seen ≡ (before ++ serve_one) ++ serve_two
    whole = seen_is ∙ ((λ k. (one.is k ++ nothing_between k) ++ serve_two)
        ∙ ap (λ r. r ++ serve_two) (append-nil (before ++ serve_one)))

    -- and nothing after them
    nothing_after : last.saw.later ≡ []
    nothing_after = nothing_more u.core u.other last.saw.later apart
        (two_second u''.seen last.saw.later (subst AreOfBothCores last.saw.splits last.is_run.two))
        (subst (λ c. done_by c last.saw.later ≡ []) core_is' last.saw.none_own)
        (own_second u.other serve_two last.saw.later
        (later_grows u.other (u'.seen ++ two.between) (serve_two ++ last.saw.later) u.other_seen
        saw_two
        (subst (λ r. Saw r u.other u.other_seen)
        (last.saw.splits ∙ (ap (λ r. r ++ last.saw.later) seen_is
        ∙ append_assoc (u'.seen ++ two.between) serve_two last.saw.later))
        (subst (λ (z : ℕ × List Entry). Saw last.run z.0 z.1) (λ k. (other_is' k, theirs_is' k))
        last.saw'))))

    last_run : last.run ≡ (before ++ serve_one) ++ serve_two
    last_run = last.saw.splits ∙ (ap (λ r. u''.seen ++ r) nothing_after
        ∙ (append-nil u''.seen ∙ whole))

    -- no line within the masks is left, and every other one is as it was
    left : (masks : List ℕ) → slice_index masks 0 ≡ first → slice_index masks 1 ≡ second → (k : ℕ)
        → k < 2
        → slice_index ws k ≡ bit_and (pending before k) (bit_not w32 (slice_index masks k))
    left masks e f k small = word k small
        ∙ (ap (λ r. pending r k) last_run ∙ after_both before u.core first second masks e f k small)
      where
        word : (k : ℕ) → k < 2 → slice_index ws k ≡ pending last.run k
        word zero small = ap (λ ws. slice_index ws 0) last.numbers
        word (suc zero) small = ap (λ ws. slice_index ws 1) last.numbers
        word (suc (suc k)) small = absurd (omega arith)

    -- where both seats went in, the run has all that they did
    pub ends_in : (v w : View) (masks : List ℕ) → u ≡ both_of v w → slice_index masks 0 ≡ first
        → slice_index masks 1 ≡ second → EndsIn v w masks ws
    ends_in v w masks e f g = record {
      run = before;
      is_run = run_first before serve_one (subst IsRun one.is one.is_run);
      saw = subst (λ (z : View). Saw before z.core z.seen) e
          (record { later = one.between; splits = refl; none_own = one.none_own });
      saw' = subst (λ (z : View). Saw before z.other z.other_seen) e saw_one;
      left = left masks f g;
    }

-- the rows of the serves go on by a last serve
served_last : (i mask n : ℕ) (v v' : View) (x : ℕ → ℕ → ℕ) (rows rows' : List (List ℕ))
    → Went (Served i mask) i n v v' → v'.core ≡ v.core
    → AreCounts rows (λ k l. served v.core v.seen k l + x k l)
    → Adds i (bit_and n mask) rows rows' → AreCounts rows' (λ k l. served v'.core v'.seen k l + x k l)
served_last i mask n v v' x rows rows' w core are adds = λ k l small line.
    let a = are k l small line in let b = adds k l small line in
    let before = v.seen ++ w.between in
    let c = ap (λ c. served c v'.seen k l) core
    ∙ went_counts (Served i mask) i n v v' w (served_in k l) k in
    let d = served_bits mask n (pending before k) l k i
    (λ e. ap (pending before) (sym e) ∙ w.found) in omega (arith, a, b, c, d)

-- the last numbers balance
pub is_even : (v w u u' u'' : View) (first second n m : ℕ) (words : List ℕ)
    (calls fresh done done' done'' : List (List ℕ)) → u ≡ both_of v w
    → Went (Served 0 first) 0 n u u' → u' ≡ saw u u'.seen
    → Went (Served 1 second) 1 m u' u'' → u'' ≡ saw u' u''.seen
    → Apart u''.core u''.other → Story words u''.core u''.other u''.seen u''.other_seen
    → AreCounts calls (λ k l. made v.core v.seen k l + made w.core w.seen k l)
    → AreCounts fresh (λ k l. raised v.core v.seen k l + raised w.core w.seen k l)
    → AreCounts done (λ k l. served v.core v.seen k l + served w.core w.seen k l)
    → Adds 0 (bit_and n first) done done' → Adds 1 (bit_and m second) done' done''
    → IsEven words calls fresh done''
is_even v w u u' u'' first second n m words calls fresh done done' done'' e one same two same' apart
    last calls_are fresh_are done_are adds adds' = λ k l small line.
    let core = ap (λ x. x.core) same in let core' = ap (λ x. x.core) same' in
    let kept = raises_kept first 0 n u u' one core in
    let kept' = raises_kept second 1 m u' u'' two core' in
    let theirs : (u''.other ≡ w.core) × (u''.other_seen ≡ w.seen) = (
      ap (λ x. x.other) same' ∙ (ap (λ x. x.other) same ∙ ap (λ x. x.other) e),
      ap (λ x. x.other_seen) same' ∙ (ap (λ x. x.other_seen) same ∙ ap (λ x. x.other_seen) e),
    ) in
    let made_is : made u''.core u''.seen k l + made u''.other u''.other_seen k l
    ≡ count_at calls k l =
    (λ j. (ap (λ f. f k l) (kept'.calls ∙ kept.calls) ∙ ap (λ (x : View). made x.core x.seen k l) e) j
    + made (theirs.0 j) (theirs.1 j) k l) ∙ sym (calls_are k l small line) in
    let raised_is : raised u''.core u''.seen k l + raised u''.other u''.other_seen k l
    ≡ count_at fresh k l =
    (λ j. (ap (λ f. f k l) (kept'.fresh ∙ kept.fresh) ∙ ap (λ (x : View). raised x.core x.seen k l) e)
    j + raised (theirs.0 j) (theirs.1 j) k l) ∙ sym (fresh_are k l small line) in
    let begins : AreCounts done (λ k l. served u.core u.seen k l + served w.core w.seen k l) =
    subst (λ (x : View). AreCounts done
    (λ k l. served x.core x.seen k l + served w.core w.seen k l)) (sym e) done_are in
    let done_is = served_last 1 second m u' u'' (served w.core w.seen) done' done'' two core'
    (served_last 0 first n u u' (served w.core w.seen) done done' one core begins adds) adds' in
    let served_is : served u''.core u''.seen k l + served u''.other u''.other_seen k l
    ≡ count_at done'' k l =
    (λ j. served u''.core u''.seen k l + served (theirs.0 j) (theirs.1 j) k l)
    ∙ sym (done_is k l small line) in
    subst (λ (z : ℕ × ℕ × ℕ). Balance z.0 z.1 z.2 (bit_at (slice_index words k) l))
    (λ j. (made_is j, raised_is j, served_is j))
    (balances words u''.core u''.other u''.seen u''.other_seen apart last k l small line)

-- a number of the last words fits 32 bits
pub last_fits : {S : Type 0} (id : ℕ) (u : View) (ws : List ℕ) (xs : List S) (k x : ℕ) → IsBoth u
    → Final (Seen (Ruled {S = S}) id u) ws xs → k < 2 → get_elem? ws k ≡ some x → x < 2 ^ 32
last_fits id u ws xs k x is_both final small there =
    let s = (last_story id u ws xs is_both final).1 in
    by_core k small s (subst (λ ws. get_elem? ws k ≡ some x) s.numbers there)
  where
    by_core : (k : ℕ) → k < 2
        → (s : Story ws u.core u.other u.seen u.other_seen)
        → get_elem? (pending s.run 0 ∷ pending s.run 1 ∷ []) k ≡ some x → x < 2 ^ 32
    by_core zero small s e = subst (λ y. y < 2 ^ 32) (some-injective (pending s.run 0) x e)
        (word_fits 0 0 s.run s.is_run.plain (omega arith))
    by_core (suc zero) small s e = subst (λ y. y < 2 ^ 32) (some-injective (pending s.run 1) x e)
        (word_fits 1 0 s.run s.is_run.plain (omega arith))
    by_core (suc (suc k)) small s e = absurd (omega arith)

-- the sums of two seats' rows are what both did
pub sums_are : (f : ℕ → List Entry → ℕ → ℕ → ℕ) (v w : View) (own own' : ℕ)
    (a b both : List (List ℕ)) → AreSums a b both → AreCounts a (f own v.seen)
    → AreCounts b (f own' w.seen) → v.core ≡ own → w.core ≡ own'
    → AreCounts both (λ k l. f v.core v.seen k l + f w.core w.seen k l)
sums_are f v w own own' a b both sums mine theirs e e' = λ k l small line.
    sums k l small line
    ∙ ((λ j. mine k l small line j + theirs k l small line j)
    ∙ (λ j. f (sym e j) v.seen k l + f (sym e' j) w.seen k l))

-- one more of some lines is one more at most
pub adds_one : (core bits : ℕ) (a b : List (List ℕ)) → Adds core bits a b → (k l : ℕ) → k < 2
    → l < 32 → count_at b k l ≤ count_at a k l + 1
adds_one core bits a b adds k l small line =
    let h = adds k l small line in let one = at_most (core == k) in omega (arith, h, one)
  where
    at_most : (t : Bool) → (if t then bit_at bits l else 0) ≤ 1
    at_most true = let h = bit_at-lt bits l in omega arith
    at_most false = omega arith
