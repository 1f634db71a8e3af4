-- A state that meets the rule, as the core sees it whose seat makes a step; and the state after the
-- step.
use Rattle.std.proofs.Common.{◌≡◌, ℕ, zero, suc, ◌+◌, ◌⊎◌, ◌∙◌, ap, subst, sym, refl, inl, inr, List, [], ◌∷◌, slice_set, slice_index, Option}
use mathlib.Core.Option.{some}
use mathlib.Core.Option as maybe
use lib.ListN.{get_elem?}
use Rattle.core_state.specs.declared.registers.Record.{Record}
use Rattle.atomic_table.specs.Table.{State}
use Rattle.duo_machine.specs.declared.machine.Gate.{Gate}
use Rattle.duo_machine.specs.declared.machine.Phase.{Phase}
use Rattle.duo_machine.specs.Safe.{SafeAt, Safe}
use Rattle.park_words.specs.declared.view.Stage.{Stage}
use Rattle.park_words.specs.declared.view.Stage.TheVariants.{New, One, Both, Spent}
use Rattle.park_words.specs.declared.view.View.{View}
use Rattle.park_words.specs.Views.{gate_word, fresh, spent}
use Rattle.park_words.specs.Story.{machine_of, word_of, Story}
use Rattle.park_words.specs.Rule.{RunIs, TurnIs, StandsFor, Pairing, Start, Pair, Joined, IsOne, IsBoth, Paired, Ruled}
use Rattle.core_state.proofs.TwoSeats.{pair_at}
use Rattle.park_words.proofs.MachineSteps.{machine_by, Apart, by_two}
use Rattle.park_words.proofs.Stories.{story_safe, told_by_other}

-- the four words, the gate of the core named first
abbrev pub row : ℕ → ℕ → ℕ → Gate → Gate → List ℕ
row zero lock turn g g' = lock ∷ turn ∷ gate_word g ∷ gate_word g' ∷ []
row (suc c) lock turn g g' = lock ∷ turn ∷ gate_word g' ∷ gate_word g ∷ []

module _ (c o : ℕ) (apart : Apart c o) (lock turn : ℕ) (g g' : Gate) where
  -- what stands in each word
  pub lock_in_row : slice_index (row c lock turn g g') 0 ≡ lock
  lock_in_row = by_two (λ c o. slice_index (row c lock turn g g') 0 ≡ lock) c o apart refl refl

  pub turn_in_row : slice_index (row c lock turn g g') 1 ≡ turn
  turn_in_row = by_two (λ c o. slice_index (row c lock turn g g') 1 ≡ turn) c o apart refl refl

  pub gate_in_row : slice_index (row c lock turn g g') (c + 2) ≡ gate_word g
  gate_in_row = by_two (λ c o. slice_index (row c lock turn g g') (c + 2) ≡ gate_word g)
      c o apart refl refl

  pub other_in_row : slice_index (row c lock turn g g') (o + 2) ≡ gate_word g'
  other_in_row = by_two (λ c o. slice_index (row c lock turn g g') (o + 2) ≡ gate_word g')
      c o apart refl refl

  -- the words with one of them written
  pub with_lock : (n : ℕ) → slice_set (row c lock turn g g') 0 n ≡ row c n turn g g'
  with_lock n = by_two (λ c o. slice_set (row c lock turn g g') 0 n ≡ row c n turn g g')
      c o apart refl refl

  pub with_turn : (n : ℕ) → slice_set (row c lock turn g g') 1 n ≡ row c lock n g g'
  with_turn n = by_two (λ c o. slice_set (row c lock turn g g') 1 n ≡ row c lock n g g')
      c o apart refl refl

  pub with_gate : (h : Gate)
      → slice_set (row c lock turn g g') (c + 2) (gate_word h) ≡ row c lock turn h g'
  with_gate h = by_two
      (λ c o. slice_set (row c lock turn g g') (c + 2) (gate_word h) ≡ row c lock turn h g')
      c o apart refl refl

  pub with_other : (h : Gate)
      → slice_set (row c lock turn g g') (o + 2) (gate_word h) ≡ row c lock turn g h
  with_other h = by_two
      (λ c o. slice_set (row c lock turn g g') (o + 2) (gate_word h) ≡ row c lock turn g h)
      c o apart refl refl

  -- what stands in a word is told by the machine and the turn
  pub words_of : (p p' : Phase) (r r' : Record) (run : Option ℕ) (i : ℕ)
      → word_of (machine_by c lock g g' p p' r r' run) turn i
      ≡ slice_index (row c lock turn g g') i
  words_of p p' r r' run i = by_two
      (λ c o. word_of (machine_by c lock g g' p p' r r' run) turn i
      ≡ slice_index (row c lock turn g g') i)
      c o apart (of_two g g' p p' r r' i) (of_two g' g p' p r' r i)
    where
      of_two : (g g' : Gate) (p p' : Phase) (r r' : Record) (i : ℕ)
          → word_of (machine_of lock g g' p p' r r' run) turn i
          ≡ slice_index (lock ∷ turn ∷ gate_word g ∷ gate_word g' ∷ []) i
      of_two g g' p p' r r' zero = refl
      of_two g g' p p' r r' (suc zero) = refl
      of_two g g' p p' r r' (suc (suc zero)) = refl
      of_two g g' p p' r r' (suc (suc (suc zero))) = refl
      of_two g g' p p' r r' (suc (suc (suc (suc i)))) = refl

-- to write a word as it is changes nothing
pub word_same : (ws : List ℕ) (i : ℕ) → slice_set ws i (slice_index ws i) ≡ ws
word_same [] i = refl
word_same (x ∷ xs) zero = refl
word_same (x ∷ xs) (suc i) = ap (λ ys. x ∷ ys) (word_same xs i)

turn_round : {turn c o : ℕ} {a b : _} → TurnIs turn c o a b → TurnIs turn o c b a
turn_round t = record { own = t.other; other = t.own; at_most_two = t.at_most_two }

run_round : {run : Option ℕ} {c o : ℕ} {a b : _} → RunIs run c o a b → RunIs run o c b a
run_round r = record { own = r.other; other = r.own; none = λ a b. r.none b a }

-- no two stages are one
pub fresh_one : New ≡ One → ⊥
fresh_one e = cc e

pub spent_one : Spent ≡ One → ⊥
spent_one e = cc e

pub both_one : (stage : Stage) → stage ≡ Both → stage ≡ One → ⊥
both_one stage b e = let bad : Both ≡ One = sym b ∙ e in cc bad

pub fresh_both : New ≡ Both → ⊥
fresh_both e = cc e

pub spent_both : Spent ≡ Both → ⊥
spent_both e = cc e

module _
    {S B D : Type 0}
    (records : S → ℕ → Record) (runs : S → Option ℕ) (stands : S → B → List D → List D → Type 0)
  where
    abbrev pub St : Type 0
    St = State (Option S) (View B D)

    pub spent_fresh : ◌≡◌ {A = View B D} spent fresh → ⊥
    spent_fresh e = let bad : Spent ≡ New = ap (λ x. x.stage) e in cc bad

    abbrev pub Homes : Type 0
    Homes = List (maybe.Option (Option S))

    -- as core 0 sees it, so core 1 does
    pub back : {turn : ℕ} {gate gate' : Gate} {run : Option ℕ} {homes : Homes} {v w : View B D}
        → Pairing records runs stands 0 1 turn gate gate' run homes v w
        → Pairing records runs stands 1 0 turn gate' gate run homes w v
    back {v = v} {w = w} p = record {
      cores = (p.cores.1, p.cores.0);
      bases = sym p.bases;
      step = run_round p.step;
      turns = turn_round p.turns;
      mine = p.theirs;
      theirs = p.mine;
      home = λ z. let h = p.home z in record {
        value = h.value;
        home = h.home;
        own = h.other;
        other = h.own;
        step = h.step;
        stands_by = subst (λ (b : Option B). StandsFor stands h.value b v.share w.share) p.bases
            h.stands_by;
      };
      knows = p.knows';
      knows' = p.knows;
    }

    -- as core 1 sees it, so core 0 does
    pub fore : {turn : ℕ} {gate gate' : Gate} {run : Option ℕ} {homes : Homes} {v w : View B D}
        → Pairing records runs stands 1 0 turn gate gate' run homes v w
        → Pairing records runs stands 0 1 turn gate' gate run homes w v
    fore {v = v} {w = w} p = record {
      cores = (p.cores.1, p.cores.0);
      bases = sym p.bases;
      step = run_round p.step;
      turns = turn_round p.turns;
      mine = p.theirs;
      theirs = p.mine;
      home = λ z. let h = p.home z in record {
        value = h.value;
        home = h.home;
        own = h.other;
        other = h.own;
        step = h.step;
        stands_by = subst (λ (b : Option B). StandsFor stands h.value b w.share v.share) p.bases
            h.stands_by;
      };
      knows = p.knows';
      knows' = p.knows;
    }

    -- the state with these words and slots, and with this view of the seat
    abbrev pub at : St → ℕ → List ℕ → Homes → View B D → St
    at s id ws hs v = record { words = ws; homes = hs; views = slice_set s.views id v }

    -- a state with two views, as the core c of this seat sees it
    pub record Side (s : State (Option S) (View B D)) (id : ℕ) (v : View B D) : Type 0 where
      pub c : ℕ
      pub o : ℕ
      pub apart : Apart c o
      pub one : v.stage ≡ One
      pub lock : ℕ
      pub turn : ℕ
      pub gate : Gate
      pub gate' : Gate
      pub run : Option ℕ
      pub w : View B D
      pub numbers : s.words ≡ row c lock turn gate gate'
      pub pairing : Pairing records runs stands c o turn gate gate' run s.homes v w
      pub story :
          Story (machine_by c lock gate gate' v.phase w.phase v.registers w.registers run) turn c o
          v.seen w.seen
      -- whatever words, slots and the seat's view are then: where they fit, the state has two views
      -- again
      pub make : (ws : List ℕ) (hs : List (maybe.Option (Option S))) (l t : ℕ) (g g' : Gate)
          (r : Option ℕ) (v' : View B D) → ws ≡ row c l t g g' → v'.stage ≡ One
          → Pairing records runs stands c o t g g' r hs v' w
          → Story (machine_by c l g g' v'.phase w.phase v'.registers w.registers r) t c o v'.seen
          w.seen
          → Paired records runs stands (at s id ws hs v')

    -- the state as the seat of core 0 sees it
    left_side : (s : St) (p : Paired records runs stands s) → Side s 0 p.left
    left_side s p = let q = p.there in record {
      c = 0;
      o = 1;
      apart = inl (refl, refl);
      one = p.ones.0;
      lock = q.lock;
      turn = q.turn;
      gate = q.gate;
      gate' = q.gate';
      run = q.run;
      w = p.right;
      numbers = q.numbers;
      pairing = q.pairing;
      story = q.story;
      make = λ ws hs l t g g' r v' is one pairs story. record {
        left = v';
        right = p.right;
        views = ap (λ vs. slice_set vs 0 v') p.views;
        ones = (one, p.ones.1);
        there = record {
          lock = l;
          turn = t;
          gate = g;
          gate' = g';
          run = r;
          numbers = is;
          pairing = pairs;
          story = story;
        };
      };
    }

    -- the state as the seat of core 1 sees it
    right_side : (s : St) (p : Paired records runs stands s) → Side s 1 p.right
    right_side s p = let q = p.there in record {
      c = 1;
      o = 0;
      apart = inr (refl, refl);
      one = p.ones.1;
      lock = q.lock;
      turn = q.turn;
      gate = q.gate';
      gate' = q.gate;
      run = q.run;
      w = p.left;
      numbers = q.numbers;
      pairing = back q.pairing;
      story = told_by_other _ _ _ _ _ _ q.story;
      make = λ ws hs l t g g' r v' is one pairs story. record {
        left = p.left;
        right = v';
        views = ap (λ vs. slice_set vs 1 v') p.views;
        ones = (p.ones.0, one);
        there = record {
          lock = l;
          turn = t;
          gate = g';
          gate' = g;
          run = r;
          numbers = is;
          pairing = fore pairs;
          story = told_by_other _ _ _ _ _ _ story;
        };
      };
    }

    -- a state that meets the rule, as the core sees it whose seat this is
    pub side : (key : S) (s : State (Option S) (View B D)) (id : ℕ) (v : View B D)
        → Ruled records runs stands key s → v.stage ≡ One → get_elem? s.views id ≡ some v
        → Side s id v
    side key s id v r one found =
        of_place (pair_at fresh spent IsOne IsBoth
        (Start records runs stands key) (Pair records runs stands) (Joined records runs stands)
        fresh_one spent_one (λ v. both_one v.stage) fresh_both spent_both spent_fresh s id v r one
        found)
      where
        of_place : (p : Paired records runs stands s)
            × (((id ≡ 0) × (p.left ≡ v)) ⊎ ((id ≡ 1) × (p.right ≡ v))) → Side s id v
        of_place (p, inl e) = subst (λ (z : ℕ × View B D). Side s z.0 z.1)
            (λ k. (sym e.0 k, e.1 k)) (left_side s p)
        of_place (p, inr e) = subst (λ (z : ℕ × View B D). Side s z.0 z.1)
            (λ k. (sym e.0 k, e.1 k)) (right_side s p)

    module _ (s : State (Option S) (View B D)) (id : ℕ) (v : View B D) (d : Side s id v) where
      -- its machine is safe for either core
      pub safe_own : SafeAt d.c d.lock d.gate v.phase d.w.phase v.registers d.run
      safe_own = by_two
          (λ c o. Safe (machine_by c d.lock d.gate d.gate' v.phase d.w.phase v.registers
          d.w.registers d.run) → SafeAt c d.lock d.gate v.phase d.w.phase v.registers d.run)
          d.c d.o d.apart (λ x. x.zero_safe) (λ x. x.one_safe)
          (story_safe _ _ _ _ _ _ d.story)

      pub safe_other : SafeAt d.o d.lock d.gate' d.w.phase v.phase d.w.registers d.run
      safe_other = by_two
          (λ c o. Safe (machine_by c d.lock d.gate d.gate' v.phase d.w.phase v.registers
          d.w.registers d.run) → SafeAt o d.lock d.gate' d.w.phase v.phase d.w.registers d.run)
          d.c d.o d.apart (λ x. x.one_safe) (λ x. x.zero_safe)
          (story_safe _ _ _ _ _ _ d.story)

      -- what stands in the words
      pub lock_is : slice_index s.words 0 ≡ d.lock
      lock_is = ap (λ ws. slice_index ws 0) d.numbers
          ∙ lock_in_row d.c d.o d.apart d.lock d.turn d.gate d.gate'

      pub turn_is : slice_index s.words 1 ≡ d.turn
      turn_is = ap (λ ws. slice_index ws 1) d.numbers
          ∙ turn_in_row d.c d.o d.apart d.lock d.turn d.gate d.gate'

      pub gate_is : slice_index s.words (d.c + 2) ≡ gate_word d.gate
      gate_is = ap (λ ws. slice_index ws (d.c + 2)) d.numbers
          ∙ gate_in_row d.c d.o d.apart d.lock d.turn d.gate d.gate'

      pub gate_is' : slice_index s.words (d.o + 2) ≡ gate_word d.gate'
      gate_is' = ap (λ ws. slice_index ws (d.o + 2)) d.numbers
          ∙ other_in_row d.c d.o d.apart d.lock d.turn d.gate d.gate'
