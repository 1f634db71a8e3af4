-- The two seats dealt at the start, joined and closed at the end.
use Rattle.std.proofs.Common.{◌≡◌, ◌≢◌, ℕ, zero, suc, ◌+◌, ◌<◌, ◌≤◌, ◌∙◌, ap, subst, sym, refl, inl, inr, Bool, true, false, List, [], ◌∷◌, Option, Some, None, arith}
use mathlib.Core.Option.{some, some-injective}
use mathlib.Core.Option as maybe
use lib.ListN.{get_elem?}
use Rattle.core_state.specs.declared.registers.Record.{Record}
use Rattle.core_state.specs.Registers.{reset, own_registers}
use Rattle.atomic_table.specs.Table.{Splits, Joins, Final, Seen}
use Rattle.duo_machine.specs.declared.machine.Gate.{Gate}
use Rattle.duo_machine.specs.declared.machine.Gate.TheVariants.{Rest as AtRest}
use Rattle.duo_machine.specs.declared.machine.Phase.{Phase}
use Rattle.duo_machine.specs.declared.machine.Phase.TheVariants.{Resting}
use Rattle.duo_machine.specs.declared.machine.Machine.{Machine}
use Rattle.duo_machine.specs.Machine.{other, record_of, own_of, first_machine}
use Rattle.duo_machine.specs.Safe.{SafeAt, Safe}
use Rattle.duo_machine.specs.Runs.{last_set, IsSafeRun}
use Rattle.park_words.specs.declared.view.Entry.{Entry}
use Rattle.park_words.specs.declared.view.Stage.TheVariants.{One}
use Rattle.park_words.specs.declared.view.View.{View}
use Rattle.park_words.specs.Views.{fresh, dealt, both_of, spent}
use Rattle.park_words.specs.Story.{events_of, machine_at, rest_by, Story, RanToRest}
use Rattle.park_words.specs.Rule.{TurnIs, AtHome, Pairing, Start, Pair, Joined, IsOne, IsBoth, Ruled}
use Rattle.park_words.specs.Told.{IsOpening, IsLast}
use Rattle.core_state.proofs.TwoSeats as two
use Rattle.park_words.proofs.MachineSteps.{machine_by, Apart, by_two, sum_one, below_two}
use Rattle.park_words.proofs.Stories.{story_safe, stories_are_safe, last_seen, told_by_other}
use Rattle.park_words.proofs.Sides.{row, fresh_one, spent_one, both_one, fresh_both, spent_both, spent_fresh, back}
use Rattle.park_words.proofs.TurnSteps.{other_is}

module _ {c o lock : ℕ} {gate gate' : Gate} {registers registers' : Record} {run : Option ℕ}
    (apart : c + o ≡ 1)
    (mine : SafeAt c lock gate Resting Resting registers run)
    (theirs : SafeAt o lock gate' Resting Resting registers' run)
  where
    -- while both cores rest, the lock is free, the gates are at rest and nothing runs
    lock_free : lock ≡ 0
    lock_free = grind arith

    gate_rests : gate ≡ AtRest
    gate_rests = grind arith

    nothing_runs : run ≡ None
    nothing_runs = grind arith

-- no core has the turn where no view has it
turn_free : {turn c o : ℕ} {a b : Bool} → c + o ≡ 1 → TurnIs turn c o a b → a ≡ false → b ≡ false
    → turn ≡ 0
turn_free {turn} {c} {o} {a} {b} apart t no_a no_b =
    let not_c : turn ≢ c + 1 = λ e. clash a no_a (t.own.0 e) in
    let not_o : turn ≢ o + 1 = λ e. clash b no_b (t.other.0 e) in
    let most = t.at_most_two in omega arith
  where
    clash : (b : Bool) → b ≡ false → b ≡ true → ⊥
    clash b no_b yes_b = let bad : false ≡ true = sym no_b ∙ yes_b in cc bad

-- what stands at the end of a run that led to both cores at rest
at_the_end : (c : ℕ) → c < 2 → (mine theirs : Record)
    → (record_of (rest_by c mine theirs) c ≡ mine)
    × (record_of (rest_by c mine theirs) (other c) ≡ theirs)
at_the_end zero small mine theirs = (refl, refl)
at_the_end (suc zero) small mine theirs = (refl, refl)
at_the_end (suc (suc c)) small mine theirs = absurd (omega arith)

own_at_first : (c : ℕ) → c < 2 → own_of first_machine c ≡ reset
own_at_first zero small = refl
own_at_first (suc zero) small = refl
own_at_first (suc (suc c)) small = absurd (omega arith)

-- the own registers of a core at the end of a safe run
own_at_end : (run : List Entry) (m : Machine) (c : ℕ) (registers : Record) → c < 2
    → machine_at run ≡ m → record_of m c ≡ registers → IsSafeRun first_machine (events_of run)
    → own_registers registers ≡ last_set c (events_of run) reset
own_at_end run m c registers small there is safe =
    sym (ap (λ n. own_of n c) there ∙ ap own_registers is)
    ∙ (safe.keeps_own c small ∙ ap (last_set c (events_of run)) (own_at_first c small))

-- both cores at rest with these views came there by one safe run
ran_to_rest : {B D : Type 0} (v w : View B D) → v.core ≤ 1
    → Story (rest_by v.core v.registers w.registers) 0 v.core (other v.core) v.seen w.seen
    → RanToRest v w
ran_to_rest v w at_most s =
    let small : v.core < 2 = omega arith in let beside : other v.core < 2 = below v.core small in
    let safe = stories_are_safe _ _ _ _ _ _ s in
    let ends = at_the_end v.core small v.registers w.registers in record {
      story = s;
      safe = safe;
      own = own_at_end s.run _ v.core v.registers small s.leads.there ends.0 safe
          ∙ last_seen s.run v.core v.seen reset s.saw;
      other_own = own_at_end s.run _ (other v.core) w.registers beside s.leads.there ends.1 safe
          ∙ last_seen s.run (other v.core) w.seen reset s.saw';
    }
  where
    below : (c : ℕ) → c < 2 → other c < 2
    below zero small = omega arith
    below (suc zero) small = omega arith
    below (suc (suc c)) small = absurd (omega arith)

module _
    {S B D : Type 0}
    (records : S → ℕ → Record) (runs : S → Option ℕ) (stands : S → B → List D → List D → Type 0)
    (key : S)
  where
    -- two views as they are dealt
    dealt_pair : (base : Option B) (homes : List (maybe.Option (Option S)))
        → homes ≡ some (Some key) ∷ [] → IsOpening records runs stands key base
        → Pairing records runs stands 0 1 0 AtRest AtRest None homes
        (dealt {B = B} {D = D} 0 base) (dealt {B = B} {D = D} 1 base)
    dealt_pair base homes at first = record {
      cores = (refl, refl);
      bases = refl;
      step = record { own = λ e. absurd (cc e); other = λ e. absurd (cc e); none = λ _ _. refl };
      turns = record {
        own = ((λ e. absurd (omega arith)), λ e. absurd (cc e));
        other = ((λ e. absurd (omega arith)), λ e. absurd (cc e));
        at_most_two = omega arith;
      };
      mine = λ e. absurd (cc e);
      theirs = λ e. absurd (cc e);
      home = λ _. record {
        value = key;
        home = at;
        own = first.0;
        other = first.1;
        step = first.2;
        stands_by = first.3;
      };
      knows = λ e. absurd (cc e);
      knows' = λ e. absurd (cc e);
    }

    -- the seats are dealt
    pub deals : (id : ℕ) (base : Option B) → IsOpening records runs stands key base
        → Splits (Ruled records runs stands key) id fresh (dealt 0 base) (dealt 1 base)
    deals id base first =
        two.deals fresh spent IsOne IsBoth
        (Start records runs stands key) (Pair records runs stands) (Joined records runs stands)
        fresh_one spent_one (λ v. both_one v.stage) fresh_both spent_both
        (spent_fresh records runs stands)
        id (dealt 0 base) (dealt 1 base) refl refl (λ ws hs start. record {
          lock = 0;
          turn = 0;
          gate = AtRest;
          gate' = AtRest;
          run = None;
          numbers = start.zeros;
          pairing = dealt_pair base hs start.home first;
          story = record {
            run = [];
            leads = record {
              made = record { two = tt; can = tt; turns = tt };
              there = refl;
              turn_there = refl;
            };
            saw = record { later = []; splits = refl; none_own = refl };
            saw' = record { later = []; splits = refl; none_own = refl };
          };
        })

    -- both cores at rest, as the core c sees them, whose seat takes the other one in
    joined : (ws : List ℕ) (hs : List (maybe.Option (Option S))) (c o lock turn : ℕ)
        (gate gate' : Gate) (run : Option ℕ) (v w : View B D) → Apart c o
        → ws ≡ row c lock turn gate gate'
        → Pairing records runs stands c o turn gate gate' run hs v w
        → Story (machine_by c lock gate gate' v.phase w.phase v.registers w.registers run) turn c o
        v.seen w.seen
        → v.phase ≡ Resting → w.phase ≡ Resting → v.turn ≡ false → w.turn ≡ false
        → Joined records runs stands ws hs (both_of v w)
    joined ws hs c o lock turn gate gate' run v w apart numbers p s rests rests' free free' =
        let safe = story_safe _ _ _ _ _ _ s in
        let mine : SafeAt c lock gate Resting Resting v.registers run =
        subst (λ (z : Phase × Phase). SafeAt c lock gate z.0 z.1 v.registers run)
        (λ k. (rests k, rests' k)) (by_two
        (λ c o. Safe (machine_by c lock gate gate' v.phase w.phase v.registers w.registers run)
        → SafeAt c lock gate v.phase w.phase v.registers run)
        c o apart (λ x. x.zero_safe) (λ x. x.one_safe) safe) in
        let theirs : SafeAt o lock gate' Resting Resting w.registers run =
        subst (λ (z : Phase × Phase). SafeAt o lock gate' z.0 z.1 w.registers run)
        (λ k. (rests' k, rests k)) (by_two
        (λ c o. Safe (machine_by c lock gate gate' v.phase w.phase v.registers w.registers run)
        → SafeAt o lock gate' w.phase v.phase w.registers run)
        c o apart (λ x. x.one_safe) (λ x. x.zero_safe) safe) in
        let sum = sum_one c o apart in
        let sum' : o + c ≡ 1 = omega arith in
        let no_lock = lock_free sum mine theirs in
        let no_turn = turn_free sum p.turns free free' in
        let at_rest = gate_rests sum mine theirs in
        let at_rest' = gate_rests sum' theirs mine in
        let idle = nothing_runs sum mine theirs in
        let core = sym p.cores.0 in
        let beside : o ≡ other v.core = sym (ap other p.cores.0 ∙ other_is apart) in
        let below = below_two c o apart in record {
          zeros = numbers ∙ ((λ k. row c (no_lock k) (no_turn k) (at_rest k) (at_rest' k))
              ∙ by_two (λ c o. row c 0 0 AtRest AtRest ≡ 0 ∷ 0 ∷ 0 ∷ 0 ∷ []) c o apart refl refl);
          core = subst (λ x. x ≤ 1) core (omega arith);
          home = subst
              (λ (z : ℕ × ℕ × Option ℕ). AtHome records runs stands hs z.0 z.1 v.base v.registers
              w.registers v.share w.share z.2)
              (λ k. (core k, beside k, idle k)) (p.home no_turn);
          story = subst
              (λ (z : ℕ × ℕ). Story (rest_by z.0 v.registers w.registers) 0 z.0 z.1 v.seen w.seen)
              (λ k. (core k, beside k))
              (subst (λ m. Story m 0 c o v.seen w.seen) (by_two
              (λ c o. machine_by c 0 AtRest AtRest Resting Resting v.registers w.registers None
              ≡ rest_by c v.registers w.registers) c o apart refl refl)
              (subst (λ (z : Machine × ℕ). Story z.0 z.1 c o v.seen w.seen)
              (λ k. (
                machine_by c (no_lock k) (at_rest k) (at_rest' k) (rests k) (rests' k) v.registers
                    w.registers (idle k),
                no_turn k,
              )) s));
        }

    -- a resting seat takes in the other resting seat
    pub joins : (id id' : ℕ) (v w : View B D) → v.stage ≡ One → v.phase ≡ Resting
        → w.phase ≡ Resting → v.turn ≡ false → w.turn ≡ false
        → Joins (Ruled records runs stands key) id v id' w (both_of v w) spent
    joins id id' v w one rests rests' free free' =
        two.joins fresh spent IsOne IsBoth
        (Start records runs stands key) (Pair records runs stands) (Joined records runs stands)
        fresh_one spent_one (λ v. both_one v.stage) fresh_both spent_both
        (spent_fresh records runs stands)
        id id' v w (both_of v w) one refl
        (λ ws hs p. joined ws hs 0 1 p.lock p.turn p.gate p.gate' p.run v w (inl (refl, refl))
        p.numbers p.pairing p.story rests rests' free free')
        (λ ws hs p. joined ws hs 1 0 p.lock p.turn p.gate' p.gate p.run v w (inr (refl, refl))
        p.numbers (back records runs stands p.pairing) (told_by_other _ _ _ _ _ _ p.story)
        rests rests' free free')

    -- what the slot holds at the end, and the run that led there
    pub closes : (id : ℕ) (v w u : View B D) (ws : List ℕ) (xs : List (Option S)) (y : Option S)
        → u ≡ both_of v w → Final (Seen (Ruled records runs stands key) id u) ws xs
        → get_elem? xs 0 ≡ some y
        → (x : S) × (y ≡ Some x) × IsLast records runs stands x v w × RanToRest v w
    closes id v w u ws xs y e final there =
        let end = two.closes fresh spent IsOne IsBoth
        (Start records runs stands key) (Pair records runs stands) (Joined records runs stands)
        fresh_one spent_one (λ v. both_one v.stage) fresh_both spent_both
        (spent_fresh records runs stands)
        id (both_of v w) ws xs refl
        (subst (λ z. Final (Seen (Ruled records runs stands key) id z) ws xs) e final) in
        let j = end.1 in let h = j.home in (
          h.value,
          some-injective y (Some h.value)
              (sym there ∙ end.2 0 (Some h.value) (ap (λ hs. get_elem? hs 0) h.home)),
          record {
            own = h.own;
            other_is = h.other;
            nothing_runs = h.step;
            stands_by = h.stands_by;
          },
          ran_to_rest v w j.core j.story,
        )
