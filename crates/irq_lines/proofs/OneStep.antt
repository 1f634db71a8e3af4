-- One step of a seat on one of the two words: the state as this seat sees it, and the state after.
use Rattle.std.proofs.Common.{◌≡◌, ◌<◌, ◌≤◌, ◌^◌, ℕ, zero, suc, ◌+◌, ◌⊎◌, ◌++◌, ◌∙◌, ap, subst, sym, refl, inl, inr, List, [], ◌∷◌, slice_set, slice_index, bit_and, bit_or, append-nil, append_assoc, eq-eqb, ne_eqb, arith}
use Rattle.std.specs.Prelude.{if◌then◌else◌, ◌==◌}
use Rattle.std.specs.Int.{bit_at, bit_not, w32}
use mathlib.Core.Option.{some, some-injective, some-ne-none, none}
use lib.ListN.{get_elem?}
use Rattle.atomic_table.specs.Table.{State, Me, step, keeps, Allows}
use Rattle.core_state.proofs.TwoSeats as two
use Rattle.irq_lines.specs.declared.view.Act.{Act}
use Rattle.irq_lines.specs.declared.view.Act.TheVariants.{Raised, Served}
use Rattle.irq_lines.specs.declared.view.Entry.{Entry}
use Rattle.irq_lines.specs.declared.view.Stage.{Stage}
use Rattle.irq_lines.specs.declared.view.Stage.TheVariants.{New, One, Both, Spent}
use Rattle.irq_lines.specs.declared.view.View.{View}
use Rattle.irq_lines.specs.Views.{fresh, spent, saw, IsOne, IsBoth}
use Rattle.irq_lines.specs.Story.{entry, IsPlain, word_by, pending, calls_in, made, Saw, Apart, Story, Went}
use Rattle.irq_lines.specs.Rule.{Start, Pair, Joined, Paired, Ended, Ruled}
use Rattle.irq_lines.specs.Told.{Tells, TellsRaised, TellsServed}
use Rattle.irq_lines.proofs.Runs.{below_two, not_one, own_both, none_own, word_append, counted_seen, run_end}

-- no two stages are one
pub fresh_one : New ≡ One → ⊥
fresh_one e = cc e

pub spent_one : Spent ≡ One → ⊥
spent_one e = cc e

pub both_one : (stage : Stage) → stage ≡ Both → stage ≡ One → ⊥
both_one stage b e = let bad : Both ≡ One = sym b ∙ e in cc bad

pub fresh_both : New ≡ Both → ⊥
fresh_both e = cc e

pub spent_both : Spent ≡ Both → ⊥
spent_both e = cc e

pub spent_fresh : spent ≡ fresh → ⊥
spent_fresh e = let bad : Spent ≡ New = ap (λ x. x.stage) e in cc bad

-- a story told by the other core
pub told_by_other : {words : List ℕ} {c o : ℕ} {mine theirs : List Entry}
    → Story words c o mine theirs → Story words o c theirs mine
told_by_other s =
    record { run = s.run; is_run = s.is_run; numbers = s.numbers; saw = s.saw'; saw' = s.saw }

-- the one of two views that a seat finds
at_two : (a b v : View) (id : ℕ) → get_elem? (a ∷ b ∷ []) id ≡ some v
    → ((id ≡ 0) × (a ≡ v)) ⊎ ((id ≡ 1) × (b ≡ v))
at_two a b v zero e = inl (refl, some-injective a v e)
at_two a b v (suc zero) e = inr (refl, some-injective b v e)
at_two a b v (suc (suc id)) e = absurd (some-ne-none v (sym e))

-- the seat is of one core, or took in the other one
abbrev pub IsOut : View → Type 0
IsOut v = IsOne v ⊎ IsBoth v

-- what a word of the two becomes, where the step changes it as its act does, and leaves the other
words_then : (i : ℕ) (f : ℕ → ℕ) (act : Act) (run : List Entry) (ws : List ℕ) → i < 2
    → ws ≡ pending run 0 ∷ pending run 1 ∷ []
    → ((n : ℕ) → word_by i n act ≡ f n)
    → ((k n : ℕ) → (i ≡ k → ⊥) → word_by k n act ≡ n)
    → (slice_set ws i (f (slice_index ws i))
    ≡ word_by 0 (pending run 0) act ∷ word_by 1 (pending run 1) act ∷ [])
    × (pending run i ≡ slice_index ws i)
words_then zero f act run ws small numbers own others =
    let m = pending run 0 in let n = pending run 1 in (
      ap (λ ws. slice_set ws 0 (f (slice_index ws 0))) numbers
          ∙ (λ k. sym (own m) k ∷ sym (others 1 n (λ e. omega arith)) k ∷ []),
      sym (ap (λ ws. slice_index ws 0) numbers),
    )
words_then (suc zero) f act run ws small numbers own others =
    let m = pending run 0 in let n = pending run 1 in (
      ap (λ ws. slice_set ws 1 (f (slice_index ws 1))) numbers
          ∙ (λ k. sym (others 0 m (λ e. omega arith)) k ∷ sym (own n) k ∷ []),
      sym (ap (λ ws. slice_index ws 1) numbers),
    )
words_then (suc (suc i)) f act run ws small numbers own others = absurd (omega arith)

-- a test of a number against itself, and against another one
if_same : (i a b : ℕ) → (if i == i then a else b) ≡ a
if_same i a b = ap (λ t. if t then a else b) (eq-eqb i i refl)

if_other : (i k a b : ℕ) → (i ≡ k → ⊥) → (if i == k then a else b) ≡ b
if_other i k a b apart = ap (λ t. if t then a else b) (ne_eqb i k apart)

-- the bits that are kept of a word are those outside the mask
pub not_not : (m : ℕ) → m < 2 ^ 32 → bit_not w32 (bit_not w32 m) ≡ m
not_not m fits = omega arith

module _ {S : Type 0} where
  -- the state with these words, and with this view of the seat
  abbrev pub at : State S View → ℕ → List ℕ → View → State S View
  at s id ws v = record { words = ws; homes = s.homes; views = slice_set s.views id v }

  -- a state as the seat sees it that makes a step: one seat of two, or the one that took in the other
  pub record Side (s : State S View) (id : ℕ) (v : View) : Type 0 where
    pub apart : Apart v.core v.other
    pub theirs : List Entry
    pub story : Story s.words v.core v.other v.seen theirs
    pub beside : v.stage ≡ Both → v.other_seen ≡ theirs
    -- whatever words and run the step leaves, where they fit, the state meets the rule again
    pub make : (ws : List ℕ) (seen : List Entry) → Story ws v.core v.other seen theirs
        → Ruled (at s id ws (saw v seen))

  left_side : (s : State S View) (p : Paired s) → Side s 0 p.left
  left_side s p = let q = p.there in let is = q.left_is in record {
    apart = inl is;
    theirs = p.right.seen;
    story = subst (λ (z : ℕ × ℕ). Story s.words z.0 z.1 p.left.seen p.right.seen)
        (λ k. (sym is.0 k, sym is.1 k)) q.story;
    beside = λ e. absurd (both_one p.left.stage e p.ones.0);
    make = λ ws seen story. inr (inl (record {
      left = saw p.left seen;
      right = p.right;
      views = ap (λ vs. slice_set vs 0 (saw p.left seen)) p.views;
      ones = p.ones;
      there = record {
        left_is = is;
        right_is = q.right_is;
        story = subst (λ (z : ℕ × ℕ). Story ws z.0 z.1 seen p.right.seen)
            (λ k. (is.0 k, is.1 k)) story;
      };
    }));
  }

  right_side : (s : State S View) (p : Paired s) → Side s 1 p.right
  right_side s p = let q = p.there in let is = q.right_is in record {
    apart = inr is;
    theirs = p.left.seen;
    story = subst (λ (z : ℕ × ℕ). Story s.words z.0 z.1 p.right.seen p.left.seen)
        (λ k. (sym is.0 k, sym is.1 k)) (told_by_other q.story);
    beside = λ e. absurd (both_one p.right.stage e p.ones.1);
    make = λ ws seen story. inr (inl (record {
      left = p.left;
      right = saw p.right seen;
      views = ap (λ vs. slice_set vs 1 (saw p.right seen)) p.views;
      ones = p.ones;
      there = record {
        left_is = q.left_is;
        right_is = is;
        story = told_by_other (subst (λ (z : ℕ × ℕ). Story ws z.0 z.1 seen p.left.seen)
            (λ k. (is.0 k, is.1 k)) story);
      };
    }));
  }

  -- the state as the seat of one core sees it
  pub side_of_one : (s : State S View) (id : ℕ) (v : View) → Ruled s → IsOne v
      → get_elem? s.views id ≡ some v → Side s id v
  side_of_one s id v r one found =
      of_place (two.pair_at fresh spent IsOne IsBoth Start Pair Joined
      fresh_one spent_one (λ v. both_one v.stage) fresh_both spent_both spent_fresh s id v r one
      found)
    where
      of_place : (p : Paired s) × (((id ≡ 0) × (p.left ≡ v)) ⊎ ((id ≡ 1) × (p.right ≡ v)))
          → Side s id v
      of_place (p, inl e) = subst (λ (z : ℕ × View). Side s z.0 z.1)
          (λ k. (sym e.0 k, e.1 k)) (left_side s p)
      of_place (p, inr e) = subst (λ (z : ℕ × View). Side s z.0 z.1)
          (λ k. (sym e.0 k, e.1 k)) (right_side s p)

  -- where a seat that took in the other one stands
  abbrev Stands : State S View → ℕ → View → Type 0
  Stands s id v =
      ((id ≡ 0) × (s.views ≡ v ∷ spent ∷ [])) ⊎ ((id ≡ 1) × (s.views ≡ spent ∷ v ∷ []))

  -- a state in which a seat has the view of both is at the end, and this is its view
  end_at : (s : State S View) (id : ℕ) (v : View) → Ruled s → IsBoth v
      → get_elem? s.views id ≡ some v → (j : Ended s) × (j.joined ≡ v) × Stands s id v
  end_at s id v (inl f) is_both found = absurd (at_first id found')
    where
      found' : get_elem? (fresh ∷ []) id ≡ some v
      found' = subst (λ xs. get_elem? xs id ≡ some v) f.views found

      at_first : (id : ℕ) → get_elem? (fresh ∷ []) id ≡ some v → ⊥
      at_first zero e = fresh_both (ap (λ x. x.stage) (some-injective fresh v e) ∙ is_both)
      at_first (suc id) e = some-ne-none v (sym e)
  end_at s id v (inr (inl p)) is_both found =
      absurd (elim (at_two p.left p.right v id
      (subst (λ xs. get_elem? xs id ≡ some v) p.views found)) [
        | inl e ↦ both_one v.stage is_both (subst IsOne e.1 p.ones.0)
        | inr e ↦ both_one v.stage is_both (subst IsOne e.1 p.ones.1)
      ])
  end_at s id v (inr (inr j)) is_both found = by_place j.views
    where
      by_place : (s.views ≡ j.joined ∷ spent ∷ []) ⊎ (s.views ≡ spent ∷ j.joined ∷ [])
          → (j : Ended s) × (j.joined ≡ v) × Stands s id v
      by_place (inl e) = elim (at_two j.joined spent v id
          (subst (λ xs. get_elem? xs id ≡ some v) e found)) [
            | inl x ↦ (j, x.1, inl (x.0, e ∙ ap (λ u. u ∷ spent ∷ []) x.1))
            | inr x ↦ absurd (spent_both (ap (λ u. u.stage) x.1 ∙ is_both))
          ]
      by_place (inr e) = elim (at_two spent j.joined v id
          (subst (λ xs. get_elem? xs id ≡ some v) e found)) [
            | inl x ↦ absurd (spent_both (ap (λ u. u.stage) x.1 ∙ is_both))
            | inr x ↦ (j, x.1, inr (x.0, e ∙ ap (λ u. spent ∷ u ∷ []) x.1))
          ]

  -- the state as the seat sees it that took in the other one
  pub side_of_both : (s : State S View) (id : ℕ) (v : View) → Ruled s → IsBoth v
      → get_elem? s.views id ≡ some v → Side s id v
  side_of_both s id v r is_both found = let e = end_at s id v r is_both found in
      let there : Joined s.words s.homes v = subst (Joined s.words s.homes) e.1 e.0.there in
      record {
        apart = there.apart;
        theirs = v.other_seen;
        story = there.story;
        beside = λ _. refl;
        make = λ ws seen story. inr (inr (record {
          joined = saw v seen;
          views = placed e.2 seen;
          is_both = is_both;
          there = record { apart = there.apart; story = story };
        }));
      }
    where
      placed : Stands s id v → (seen : List Entry)
          → (slice_set s.views id (saw v seen) ≡ saw v seen ∷ spent ∷ [])
          ⊎ (slice_set s.views id (saw v seen) ≡ spent ∷ saw v seen ∷ [])
      placed (inl x) seen = inl (λ k. slice_set (x.1 k) (x.0 k) (saw v seen))
      placed (inr x) seen = inr (λ k. slice_set (x.1 k) (x.0 k) (saw v seen))

  -- a step that leaves the words as its act does: the rule holds again, and the seat's run went on
  pub lands : (s : State S View) (id i n : ℕ) (v : View) (d : Side s id v) (act : Act)
      (ws : List ℕ) → IsPlain act
      → ((k l : ℕ) → made v.core v.seen k l + calls_in k l (pending d.story.run k) act ≤ 4294967295)
      → ws ≡ word_by 0 (pending d.story.run 0) act ∷ word_by 1 (pending d.story.run 1) act ∷ []
      → pending d.story.run i ≡ n
      → Ruled (at s id ws (saw v (d.story.run ++ entry v.core act ∷ [])))
      × Went act i n v (saw v (d.story.run ++ entry v.core act ∷ []))
  lands s id i n v d act ws plain few words found =
      let run = d.story.run in let own = entry v.core act ∷ [] in let seen = run ++ own in
      let is = run_end run v.core act d.story.is_run (below_two v.core v.other d.apart) plain
      (λ k l. let same = counted_seen (calls_in k l) k v.core 0 run v.seen d.story.saw in
      let least = few k l in omega (arith, same, least)) in (
        d.make ws seen (record {
          run = seen;
          is_run = is;
          numbers = words
              ∙ (λ k. sym (word_append 0 0 run own) k ∷ sym (word_append 1 0 run own) k ∷ []);
          saw = record { later = []; splits = sym (append-nil seen); none_own = refl };
          saw' = record {
            later = d.story.saw'.later ++ own;
            splits = ap (λ r. r ++ own) d.story.saw'.splits
                ∙ append_assoc d.theirs d.story.saw'.later own;
            none_own = own_both v.other d.story.saw'.later own d.story.saw'.none_own
                (none_own v.core v.other act (not_one v.core v.other d.apart));
          };
        }),
        record {
          between = d.story.saw.later;
          none_own = d.story.saw.none_own;
          is = ap (λ r. r ++ own) d.story.saw.splits;
          is_run = is;
          found = ap (λ r. pending r i) (sym d.story.saw.splits) ∙ found;
          beside = λ both. (
            d.apart,
            subst (λ (z : List Entry × List Entry). Saw z.0 v.other z.1)
                (λ k. (d.story.saw.splits k, sym (d.beside both) k)) d.story.saw',
          );
        },
      )

  pub side : (s : State S View) (id : ℕ) (v : View) → Ruled s → IsOut v
      → get_elem? s.views id ≡ some v → Side s id v
  side s id v r (inl one) found = side_of_one s id v r one found
  side s id v r (inr is_both) found = side_of_both s id v r is_both found

  -- a step on a word that changes it as its act does may be made, and tells the act
  pub steps : (slots id i : ℕ) (f : ℕ → ℕ) (me : Me S View) (act : Act) → IsOut me.0 → i < 2
      → IsPlain act → ((n : ℕ) → word_by i n act ≡ f n)
      → ((k n : ℕ) → (i ≡ k → ⊥) → word_by k n act ≡ n)
      → ((k l n : ℕ) → made me.0.core me.0.seen k l + calls_in k l n act ≤ 4294967295)
      → Allows Ruled slots id me i f (λ n me'. Tells act i n me me')
  steps slots id i f me act out small plain own others few = λ s r sized found fits.
      let d = side s id me.0 r out found in
      let words = words_then i f act d.story.run s.words small d.story.numbers own others in
      let h = lands s id i (slice_index s.words i) me.0 d act
      (slice_set s.words i (f (slice_index s.words i))) plain
      (λ k l. few k l (pending d.story.run k)) words.0 words.1 in (
        saw me.0 (d.story.run ++ entry me.0.core act ∷ []),
        keeps,
        tt,
        h.0,
        (refl, h.1),
      )

  -- a raise of these bits of core i
  pub raises : (slots id i bits : ℕ) (me : Me S View) → IsOne me.0 → i < 2 → bits < 2 ^ 32
      → ((k l : ℕ) → made me.0.core me.0.seen k l + (if i == k then bit_at bits l else 0)
      ≤ 4294967295)
      → Allows Ruled slots id me i (λ n. bit_or n bits) (TellsRaised (step slots i bits 0 none) me)
  raises slots id i bits me one small plain few =
      steps slots id i (λ n. bit_or n bits) me (Raised i bits) (inl one) small plain
      (λ n. if_same i (bit_or n bits) n) (λ k n apart. if_other i k (bit_or n bits) n apart)
      (λ k l n. few k l)

  -- a serve of the lines of core i within the mask
  pub serves : (slots id i mask : ℕ) (me : Me S View) → IsOut me.0 → i < 2 → mask < 2 ^ 32
      → ((k l : ℕ) → made me.0.core me.0.seen k l ≤ 4294967295)
      → Allows Ruled slots id me i (λ n. bit_and n (bit_not w32 mask))
      (TellsServed (step slots i (bit_not w32 mask) 0 none) me)
  serves slots id i mask me out small plain few =
      subst (λ m. Allows Ruled slots id me i (λ n. bit_and n (bit_not w32 mask))
      (λ n me'. Tells (Served i m) i n me me')) (sym (not_not mask plain))
      (steps slots id i (λ n. bit_and n (bit_not w32 mask)) me (Served i mask) out small plain
      (λ n. if_same i (bit_and n (bit_not w32 mask)) n)
      (λ k n apart. if_other i k (bit_and n (bit_not w32 mask)) n apart)
      (λ k l n. let h = few k l in omega arith))
