-- Runs of both cores' steps: a run with more at its end, safety, and what a step adds to a story.
use Rattle.std.proofs.Common.{◌≡◌, ◌≢◌, ◌==◌, ℕ, zero, suc, ◌+◌, ◌<◌, ◌++◌, ◌∙◌, ap, subst, sym, refl, inl, inr, ◌⊎◌, Bool, true, false, List, [], ◌∷◌, Option, Some, None, ne_eqb, eq-eqb, append-nil, append_assoc, arith}
use Rattle.std.specs.Prelude.{if◌then◌else◌}
use Rattle.core_state.specs.declared.registers.Regs.{Regs}
use Rattle.duo_machine.specs.declared.machine.Phase.TheVariants.{Owning, Quiet}
use Rattle.duo_machine.specs.declared.machine.Machine.{Machine}
use Rattle.duo_machine.specs.declared.events.Kind.{Kind}
use Rattle.duo_machine.specs.declared.events.Event.{Event}
use Rattle.duo_machine.specs.Machine.{other, gate_of, first_machine}
use Rattle.duo_machine.specs.Table.{Allows, changed, CanHappen, after}
use Rattle.duo_machine.specs.Safe.{SafeFor, Safe}
use Rattle.duo_machine.specs.Runs.{AreOfTwoCores, CanRun, after_all, set_by, last_set}
use Rattle.duo_machine.proofs.StepKeeps.{first_safe}
use Rattle.duo_machine.proofs.RunLemmas.{last_append, run_keeps_safe, safe_run}
use Rattle.park_words.specs.declared.view.Act.{Act}
use Rattle.park_words.specs.declared.view.Act.TheVariants.{Made, Took, Gave}
use Rattle.park_words.specs.declared.view.Entry.{Entry}
use Rattle.park_words.specs.declared.view.View.{View}
use Rattle.park_words.specs.Views.{gate_word, held_gate}
use Rattle.park_words.specs.Story.{entry, done_by, AreOfBothCores, event_of, events_of, turn_by, turn_after, NeedsTurn, MayAct, KeepTurns, LeavesTurn, UsesTurn, LeaveTurn, TookSince, TurnsAreOfOneCore, machine_at, turn_at, word_of, CanBeMade, Leads, Saw, Story, StoriesAreSafe, handed, Agrees, Went, Looks, Ran}
use Rattle.park_words.proofs.MachineSteps.{Steps}

-- entries of both cores have events of both cores
events_two : (es : List Entry) → AreOfBothCores es → AreOfTwoCores (events_of es)
events_two [] two = tt
events_two (e ∷ es) two = of_act e.act (events_two es two.1)
  where
    of_act : (act : Act) → AreOfTwoCores (events_of es)
        → AreOfTwoCores (event_of e.core act (events_of es))
    of_act (Made kind) rest = (two.0, rest)
    of_act Took rest = rest
    of_act Gave rest = rest

-- a run that may be made leads to a safe machine
pub run_safe : (run : List Entry) → CanBeMade run → Safe (machine_at run)
run_safe run made =
    run_keeps_safe first_machine (events_of run) first_safe (events_two run made.two) made.can

pub story_safe : (m : Machine) (turn c o : ℕ) (mine theirs : List Entry)
    → Story m turn c o mine theirs → Safe m
story_safe m turn c o mine theirs s = subst Safe s.leads.there (run_safe s.run s.leads.made)

-- the run of a story is a safe run
pub stories_are_safe : StoriesAreSafe
stories_are_safe = λ m turn c o mine theirs s.
    safe_run first_machine (events_of s.run) first_safe (events_two s.run s.leads.made.two)
    s.leads.made.can

-- a safe machine is safe for each core
pub safe_for : (m : Machine) (c : ℕ) → c < 2 → Safe m → SafeFor m c
safe_for m zero small safe = safe.zero_safe
safe_for m (suc zero) small safe = safe.one_safe
safe_for m (suc (suc c)) small safe = absurd (omega arith)

-- a run with one more at its end
two_end : (es : List Entry) (e : Entry) → AreOfBothCores es → e.core < 2
    → AreOfBothCores (es ++ e ∷ [])
two_end [] e two small = (small, tt)
two_end (x ∷ es) e two small = (two.0, two_end es e two.1 small)

can_end : (m : Machine) (events : List Event) (e : Event) → CanRun m events
    → CanHappen (after_all m events) e → CanRun m (events ++ e ∷ [])
can_end m [] e can happens = (happens, tt)
can_end m (x ∷ events) e can happens = (can.0, can_end (after m x) events e can.1 happens)

reached_end : (m : Machine) (events : List Event) (e : Event)
    → after_all m (events ++ e ∷ []) ≡ after (after_all m events) e
reached_end m [] e = refl
reached_end m (x ∷ events) e = reached_end (after m x) events e

turns_end : (t : ℕ) (es : List Entry) (e : Entry) → KeepTurns t es
    → MayAct (turn_after t es) e.core e.act → KeepTurns t (es ++ e ∷ [])
turns_end t [] e turns may = (may, tt)
turns_end t (x ∷ es) e turns may =
    (turns.0, turns_end (turn_by t x.core x.act) es e turns.1 may)

turn_end : (t : ℕ) (es : List Entry) (e : Entry)
    → turn_after t (es ++ e ∷ []) ≡ turn_by (turn_after t es) e.core e.act
turn_end t [] e = refl
turn_end t (x ∷ es) e = turn_end (turn_by t x.core x.act) es e

event_append : (c : ℕ) (act : Act) (a b : List Event)
    → event_of c act (a ++ b) ≡ event_of c act a ++ b
event_append c (Made kind) a b = refl
event_append c Took a b = refl
event_append c Gave a b = refl

events_append : (a b : List Entry) → events_of (a ++ b) ≡ events_of a ++ events_of b
events_append [] b = refl
events_append (e ∷ a) b = ap (event_of e.core e.act) (events_append a b)
    ∙ event_append e.core e.act (events_of a) (events_of b)

own_append : (c : ℕ) (a b : List Entry) → done_by c (a ++ b) ≡ done_by c a ++ done_by c b
own_append c [] b = refl
own_append c (e ∷ a) b = choose (e.core == c) (own_append c a b)
  where
    choose : (t : Bool) → done_by c (a ++ b) ≡ done_by c a ++ done_by c b
        → (if t then e ∷ done_by c (a ++ b) else done_by c (a ++ b))
        ≡ (if t then e ∷ done_by c a else done_by c a) ++ done_by c b
    choose true h = ap (λ x. e ∷ x) h
    choose false h = h

-- the own entries of two parts
pub own_both : (c : ℕ) (a b x y : List Entry) → done_by c a ≡ x → done_by c b ≡ y
    → done_by c (a ++ b) ≡ x ++ y
own_both c a b x y e f = own_append c a b ∙ (λ k. e k ++ f k)

-- entries of others leave the registers of a core's last Set
last_none : (c : ℕ) (es : List Entry) (r : Regs) → done_by c es ≡ []
    → last_set c (events_of es) r ≡ r
last_none c [] r none = refl
last_none c (e ∷ es) r none =
    by_core (e.core == c) refl none (λ rest. last_none c es r rest)
  where
    by_act : (act : Act) → (e.core == c) ≡ false → last_set c (events_of es) r ≡ r
        → last_set c (event_of e.core act (events_of es)) r ≡ r
    by_act (Made kind) apart rest =
        ap (λ b. last_set c (events_of es) (if b then set_by kind r else r)) apart ∙ rest
    by_act Took apart rest = rest
    by_act Gave apart rest = rest

    by_core : (t : Bool) → (e.core == c) ≡ t
        → (if t then e ∷ done_by c es else done_by c es) ≡ []
        → (done_by c es ≡ [] → last_set c (events_of es) r ≡ r)
        → last_set c (event_of e.core e.act (events_of es)) r ≡ r
    by_core true is own rest = absurd (cc own)
    by_core false is own rest = by_act e.act is (rest own)

pub last_seen : (run : List Entry) (c : ℕ) (seen : List Entry) (r : Regs) → Saw run c seen
    → last_set c (events_of run) r ≡ last_set c (events_of seen) r
last_seen run c seen r saw =
    ap (λ x. last_set c (events_of x) r) saw.splits
    ∙ (ap (λ x. last_set c x r) (events_append seen saw.later)
    ∙ (last_append c (events_of seen) (events_of saw.later) r
    ∙ last_none c saw.later (last_set c (events_of seen) r) saw.none_own))

-- an entry of a core is none of another one's
pub none_own : (c o : ℕ) (act : Act) (es : List Entry) → c ≢ o
    → done_by o (entry c act ∷ es) ≡ done_by o es
none_own c o act es apart =
    ap (λ b. if b then entry c act ∷ done_by o es else done_by o es) (ne_eqb c o apart)

-- it is one of its own
pub mine_own : (c : ℕ) (act : Act) (es : List Entry)
    → done_by c (entry c act ∷ es) ≡ entry c act ∷ done_by c es
mine_own c act es =
    ap (λ b. if b then entry c act ∷ done_by c es else done_by c es) (eq-eqb c c refl)

pub none_handed : (c o : ℕ) (kind : Option Kind) → c ≢ o → done_by o (handed c kind) ≡ []
none_handed c o None apart = none_own c o Gave [] apart
none_handed c o (Some kind) apart =
    none_own c o (Made kind) (entry c Gave ∷ []) apart ∙ none_own c o Gave [] apart

module _ (run : List Entry) (m : Machine) (turn : ℕ) (l : Leads run m turn) where
  -- the same run leads on by nothing
  pub leads_none : Leads (run ++ []) m turn
  leads_none = subst (λ r. Leads r m turn) (sym (append-nil run)) l

  -- it leads on by an event of the machine
  pub leads_made : (c : ℕ) (kind : Kind) → c < 2 → Allows m c kind
      → (NeedsTurn kind → turn ≡ c + 1)
      → Leads (run ++ entry c (Made kind) ∷ []) (changed m c kind) turn
  leads_made c kind small allowed need =
      let e = entry c (Made kind) in let event : Event = record { core = c; kind = kind } in
      record {
        made = record {
          two = two_end run e l.made.two small;
          can = subst (CanRun first_machine) (sym (events_append run (e ∷ [])))
              (can_end first_machine (events_of run) event l.made.can
              (subst (λ n. Allows n c kind) (sym l.there) allowed));
          turns = turns_end 0 run e l.made.turns (λ needs. l.turn_there ∙ need needs);
        };
        there = ap (after_all first_machine) (events_append run (e ∷ []))
            ∙ (reached_end first_machine (events_of run) event
            ∙ ap (λ n. changed n c kind) l.there);
        turn_there = turn_end 0 run e ∙ l.turn_there;
      }

  -- it leads on by the turn that is taken or given back
  pub leads_turn : (c : ℕ) (act : Act) → event_of c act [] ≡ [] → c < 2 → MayAct turn c act
      → Leads (run ++ entry c act ∷ []) m (turn_by turn c act)
  leads_turn c act none small may =
      let e = entry c act in
      let same : events_of (run ++ e ∷ []) ≡ events_of run =
      events_append run (e ∷ [])
      ∙ (ap (λ x. events_of run ++ x) none ∙ append-nil (events_of run)) in record {
        made = record {
          two = two_end run e l.made.two small;
          can = subst (CanRun first_machine) (sym same) l.made.can;
          turns = turns_end 0 run e l.made.turns
              (subst (λ t. MayAct t c act) (sym l.turn_there) may);
        };
        there = ap (after_all first_machine) same ∙ l.there;
        turn_there = turn_end 0 run e ∙ ap (λ t. turn_by t c act) l.turn_there;
      }

-- a run leads on by a turn given back, and by the event of that turn
pub leads_handed : (run : List Entry) (m n : Machine) (turn c : ℕ) (kind : Option Kind)
    → Leads run m turn → c < 2 → turn ≡ c + 1 → Steps m c kind n
    → Leads (run ++ handed c kind) n 0
leads_handed run m n turn c None l small has step =
    subst (λ x. Leads (run ++ entry c Gave ∷ []) x 0) (sym step)
    (leads_turn run m turn l c Gave refl small has)
leads_handed run m n turn c (Some kind) l small has step =
    subst (λ (z : List Entry × Machine). Leads z.0 z.1 0)
    (λ k. (append_assoc run (entry c (Made kind) ∷ []) (entry c Gave ∷ []) k, sym step.1 k))
    (leads_turn (run ++ entry c (Made kind) ∷ []) (changed m c kind) turn
    (leads_made run m turn l c kind small step.0 (λ _. has)) c Gave refl small has)

-- where a run leads to the turn of a core, it took the turn and nobody else used it since
took_since : (c t : ℕ) (es : List Entry) → KeepTurns t es → turn_after t es ≡ c + 1
    → ((t ≡ c + 1) × LeaveTurn c es) ⊎ TookSince es c
took_since c t [] turns is = inl (is, tt)
took_since c t (e ∷ es) turns is =
    by_act e.act refl turns.0 (took_since c (turn_by t e.core e.act) es turns.1 is)
  where
    more : TookSince es c → TookSince (e ∷ es) c
    more h = record {
      before = e ∷ h.before;
      since = h.since;
      splits = ap (λ x. e ∷ x) h.splits;
      leave = h.leave;
    }

    by_act : (act : Act) → e.act ≡ act → MayAct t e.core act
        → ((turn_by t e.core act ≡ c + 1) × LeaveTurn c es) ⊎ TookSince es c
        → ((t ≡ c + 1) × (LeavesTurn c e.core e.act × LeaveTurn c es)) ⊎ TookSince (e ∷ es) c
    by_act act act_is may (inr h) = inr (more h)
    by_act (Made kind) act_is may (inl h) = inl (
      h.0,
      (
        subst (LeavesTurn c e.core) (sym act_is)
            (λ needs. let a = may needs in let b = h.0 in omega arith),
        h.1,
      ),
    )
    by_act Took act_is may (inl h) = let b = h.0 in let core : e.core ≡ c = omega arith in
        inr (record {
          before = [];
          since = es;
          splits = λ k. record { core = core k; act = act_is k } ∷ es;
          leave = h.1;
        })
    by_act Gave act_is may (inl h) = let b = h.0 in absurd (omega arith)

turns_split : (t : ℕ) (front rest : List Entry) → KeepTurns t (front ++ rest)
    → KeepTurns t front × KeepTurns (turn_after t front) rest
turns_split t [] rest turns = (tt, turns)
turns_split t (e ∷ front) rest turns = let parts =
    turns_split (turn_by t e.core e.act) front rest turns.1 in ((turns.0, parts.0), parts.1)

-- what is done to the value from the turn taken to the turn given back is of one core
pub turns_are_of_one_core : TurnsAreOfOneCore
turns_are_of_one_core = λ front rest e made uses.
    let parts = turns_split 0 front (e ∷ rest) made.turns in
    last front e.core (took_since e.core 0 front parts.0 (has (turn_after 0 front) e.core e.act uses parts.1.0))
  where
    has : (t c : ℕ) (act : Act) → UsesTurn act → MayAct t c act → t ≡ c + 1
    has t c (Made kind) uses may = may uses
    has t c Took uses may = absurd uses
    has t c Gave uses may = may

    last : (front : List Entry) (c : ℕ)
        → ((0 ≡ c + 1) × LeaveTurn c front) ⊎ TookSince front c → TookSince front c
    last front c (inl h) = let a = h.0 in absurd (omega arith)
    last front c (inr h) = h

-- a story goes on by entries of a core, which has seen all of it then
pub grows : (m n : Machine) (turn turn' c o : ℕ) (mine theirs own : List Entry)
    (s : Story m turn c o mine theirs) → done_by o own ≡ [] → Leads (s.run ++ own) n turn'
    → Story n turn' c o (s.run ++ own) theirs
grows m n turn turn' c o mine theirs own s none l = record {
  run = s.run ++ own;
  leads = l;
  saw = record { later = []; splits = sym (append-nil (s.run ++ own)); none_own = refl };
  saw' = record {
    later = s.saw'.later ++ own;
    splits = ap (λ r. r ++ own) s.saw'.splits ∙ append_assoc theirs s.saw'.later own;
    none_own = own_both o s.saw'.later own [] [] s.saw'.none_own none;
  };
}

-- a story told by the other core
pub told_by_other : (m : Machine) (turn c o : ℕ) (mine theirs : List Entry)
    → Story m turn c o mine theirs → Story m turn o c theirs mine
told_by_other m turn c o mine theirs s =
    record { run = s.run; leads = s.leads; saw = s.saw'; saw' = s.saw }

module _ {B D : Type 0} where
  -- a seat went on by these entries of its core, and knows what is so where they lead
  pub went : (m n : Machine) (turn turn' c o : ℕ) (v v' : View B D) (theirs own : List Entry)
      (s : Story m turn c o v.seen theirs) → v.core ≡ c → v'.seen ≡ s.run ++ own
      → Leads (s.run ++ own) n turn' → Agrees v' n turn' → Went own v v'
  went m n turn turn' c o v v' theirs own s core seen l agrees = record {
    between = s.saw.later;
    none_own = subst (λ x. done_by x s.saw.later ≡ []) (sym core) s.saw.none_own;
    is = seen ∙ ap (λ r. r ++ own) s.saw.splits;
    made = subst CanBeMade (sym seen) l.made;
    agrees = subst (λ (z : Machine × ℕ). Agrees v' z.0 z.1)
        (λ k. (
          sym (ap machine_at seen ∙ l.there) k,
          sym (ap turn_at seen ∙ l.turn_there) k,
        )) agrees;
  }

  -- an owner never finds the lock another's
  pub owner_has_lock : (v v' : View B D) (r : ℕ) → v'.core < 2 → v'.phase ≡ Owning
      → r ≢ v'.core + 1 → Looks 0 r v v' → ⊥
  owner_has_lock v v' r small owns other_one (w, word) =
      let safe = safe_for (machine_at v'.seen) v'.core small (run_safe v'.seen w.made) in
      other_one (sym word ∙ safe.lock_fits.owner.1 (inl (w.agrees.phase ∙ owns)))

  -- a quiet core never finds the other gate another than it knows
  pub quiet_knows_gate : (v v' : View B D) (i r : ℕ) → v'.core < 2 → v'.core + i ≡ 3
      → v'.phase ≡ Quiet → r ≢ gate_word (held_gate v'.held) → Looks i r v v' → ⊥
  quiet_knows_gate v v' i r small place quiet other_one (w, word) =
      other_one (sym word ∙ (there v'.core i small place (machine_at v'.seen) (turn_at v'.seen)
      ∙ ap gate_word (w.agrees.held quiet)))
    where
      there : (c i : ℕ) → c < 2 → c + i ≡ 3 → (m : Machine) (t : ℕ)
          → word_of m t i ≡ gate_word (gate_of m (other c))
      there zero i small place m t = let e : i ≡ 3 = omega arith in
          subst (λ i. word_of m t i ≡ gate_word (gate_of m 1)) (sym e) refl
      there (suc zero) i small place m t = let e : i ≡ 2 = omega arith in
          subst (λ i. word_of m t i ≡ gate_word (gate_of m 0)) (sym e) refl
      there (suc (suc c)) i small place m t = absurd (omega arith)

  -- any number of steps: one step is a walk, and a walk goes on by a step
  pub ran : (own : List Entry) (v w : View B D) → w.core ≡ v.core → done_by v.core own ≡ own
      → Went own v w → Ran own v w
  ran own v w core is h = record {
    core = core;
    later = h.between ++ own;
    is = h.is ∙ append_assoc v.seen h.between own;
    own_is = own_both v.core h.between own [] own h.none_own is;
  }

  pub ran_then : (own more : List Entry) (u v w : View B D) → Ran own u v → Ran more v w
      → Ran (own ++ more) u w
  ran_then own more u v w a b = record {
    core = b.core ∙ a.core;
    later = a.later ++ b.later;
    is = b.is ∙ (ap (λ s. s ++ b.later) a.is ∙ append_assoc u.seen a.later b.later);
    own_is = own_both u.core a.later b.later own more a.own_is
        (subst (λ c. done_by c b.later ≡ more) a.core b.own_is);
  }

  -- no step is a walk
  pub ran_none : (v : View B D) → Ran [] v v
  ran_none v = record { core = refl; later = []; is = sym (append-nil v.seen); own_is = refl }

  -- a walk of which nothing is the core's own goes on by a look
  pub ran_looks : (u v w : View B D) → w.core ≡ v.core → Ran [] u v → Went [] v w → Ran [] u w
  ran_looks u v w core a h = ran_then [] [] u v w a (ran [] v w core refl h)

  -- a walk goes on by an event of the core
  pub ran_made : (own : List Entry) (kind : Kind) (u v w : View B D) → w.core ≡ v.core
      → Ran own u v → Went (entry v.core (Made kind) ∷ []) v w
      → Ran (own ++ entry u.core (Made kind) ∷ []) u w
  ran_made own kind u v w core a h =
      subst (λ c. Ran (own ++ entry c (Made kind) ∷ []) u w) a.core
      (ran_then own (entry v.core (Made kind) ∷ []) u v w a
      (ran (entry v.core (Made kind) ∷ []) v w core (mine_own v.core (Made kind) []) h))

  -- the same, where nothing of the walk was the core's own
  pub ran_step : (kind : Kind) (u v w : View B D) → w.core ≡ v.core → Ran [] u v
      → Went (entry v.core (Made kind) ∷ []) v w → Ran (entry u.core (Made kind) ∷ []) u w
  ran_step kind u v w core a h = ran_made [] kind u v w core a h

  -- an event of the core is a walk
  pub ran_first : (kind : Kind) (v w : View B D) → w.core ≡ v.core
      → Went (entry v.core (Made kind) ∷ []) v w → Ran (entry v.core (Made kind) ∷ []) v w
  ran_first kind v w core h = ran_made [] kind v v w core (ran_none v) h
