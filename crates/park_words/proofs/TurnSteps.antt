-- Taking the turn and giving it back.
use Rattle.std.proofs.Common.{◌≡◌, ◌≢◌, ℕ, zero, suc, ◌+◌, ◌<◌, ◌⊎◌, ◌++◌, ◌∙◌, ap, subst, sym, refl, inl, inr, Bool, true, false, List, [], ◌∷◌, length, slice_set, slice_index, Option, Some, None, eqb, eqb-true, arith}
use Rattle.std.proofs.lemmas.Bool.{eqb-false}
use mathlib.Core.Logic.{dite}
use mathlib.Core.Option.{some, none}
use mathlib.Core.Option as maybe
use native.Mathlib.Decide.{ℕ_discrete}
use prog.Atomic.{either}
use lib.ListN.{get_elem?}
use Rattle.core_state.specs.declared.registers.Record.{Record}
use Rattle.core_state.specs.Registers.{saved_and_masked, restored}
use Rattle.atomic_table.specs.Table.{State, Me, step, keeps, takes, gives, put_back, rest, Allows}
use Rattle.duo_machine.specs.declared.machine.Gate.{Gate}
use Rattle.duo_machine.specs.declared.machine.Phase.{Phase}
use Rattle.duo_machine.specs.declared.machine.Phase.TheVariants.{Quiet}
use Rattle.duo_machine.specs.declared.events.Kind.{Kind}
use Rattle.duo_machine.specs.declared.events.Kind.TheVariants.{Start, Rest, Take, Give, Save, Back, Hold, Ask, Park, See, Begin, Done, End, Leave, Set, Fetch}
use Rattle.duo_machine.specs.Machine.{other}
use Rattle.duo_machine.specs.Safe.{SafeAt}
use Rattle.park_words.specs.declared.view.Act.TheVariants.{Took}
use Rattle.park_words.specs.declared.view.Entry.{Entry}
use Rattle.park_words.specs.declared.view.Stage.TheVariants.{One}
use Rattle.park_words.specs.declared.view.View.{View}
use Rattle.park_words.specs.Views.{is_step_of, saw, with_turn, without_turn}
use Rattle.park_words.specs.Story.{entry, handed, Leads}
use Rattle.park_words.specs.Rule.{RunIs, StandsBy, AtHome, Pairing, Ruled}
use Rattle.park_words.specs.Told.{Work, Does, IsBeforeQuiet, Known, Gives, TellsTaken, TellsGiven}
use Rattle.park_words.proofs.MachineSteps.{Steps, machine_by, Apart, sum_one, below_two, save_step, back_step, set_step, fetch_step, begin_step, done_step, no_step}
use Rattle.park_words.proofs.Stories.{none_own, none_handed, leads_turn, leads_handed}
use Rattle.park_words.proofs.Sides.{with_turn as turn_in, at, Side, side, safe_own, safe_other, turn_is}
use Rattle.park_words.proofs.Exchanges.{hit, miss, two_cores, own_step, not_own_step, lands, sees_run}

-- the other core, where the two are core 0 and core 1
pub other_is : {c o : ℕ} → Apart c o → other c ≡ o
other_is (inl e) = ap other e.0 ∙ sym e.1
other_is (inr e) = ap other e.0 ∙ sym e.1

module _ {c o lock : ℕ} {gate gate' : Gate} {phase phase' : Phase} {registers registers' : Record}
    {run : Option ℕ}
    (apart : c + o ≡ 1)
    (mine : SafeAt c lock gate phase phase' registers run)
    (theirs : SafeAt o lock gate' phase' phase registers' run)
  where
    -- while a core runs, owns the lock or asks, nothing runs, but for a step of its own
    out_of_quiet : IsBeforeQuiet phase → run ≡ None
    out_of_quiet is = grind arith

    -- while a core is quiet, nothing of the other one runs
    quiet_alone : phase ≡ Quiet → run ≢ Some o
    quiet_alone is = grind arith

    -- while a core is quiet and has no step of its own, nothing runs
    quiet_own : phase ≡ Quiet → run ≢ Some c → run ≡ None
    quiet_own is off = grind arith

-- the step of a core is told by the running step
step_by : (c o : ℕ) → c + o ≡ 1 → (run : Option ℕ) (theirs : Bool)
    → ((run ≡ None) ⊎ (run ≡ Some 0) ⊎ (run ≡ Some 1)) → (theirs ≡ true → run ≡ Some o)
    → (theirs ≡ false → run ≢ Some o) → RunIs run c o (is_step_of c run) theirs
step_by c o apart None theirs is on off = record {
  own = λ bad. absurd (cc bad);
  other = on;
  none = λ a b. refl;
}
step_by c o apart (Some d) theirs is on off = record {
  own = λ e. ap Some (eqb-true d c e);
  other = on;
  none = λ a b. absurd (off b (one is (eqb-false d c a)));
}
  where
    last : d < 2 → d ≢ c → d ≡ o
    last small ne = omega arith

    one : ((Some d ≡ None) ⊎ (Some d ≡ Some 0) ⊎ (Some d ≡ Some 1)) → d ≢ c → Some d ≡ Some o
    one (inl bad) ne = absurd (cc bad)
    one (inr (inl e)) ne = let f : d ≡ 0 = cc e in ap Some (last (omega arith) ne)
    one (inr (inr e)) ne = let f : d ≡ 1 = cc e in ap Some (last (omega arith) ne)

-- where neither view is the other core's step, the running step is not the other core's
not_theirs : {run : Option ℕ} {c o : ℕ} (mine theirs : Bool) → c + o ≡ 1 → RunIs run c o mine theirs
    → theirs ≡ false → run ≢ Some o
not_theirs mine true apart r off e = let bad : true ≡ false = off in cc bad
not_theirs {run} {c} {o} true false apart r off e = let same : Some c ≡ Some o = sym (r.own refl)
    ∙ e in let bad : c ≡ o = cc same in omega arith
not_theirs {run} {c} {o} false false apart r off e = let bad : None ≡ Some o =
    sym (r.none refl refl) ∙ e in cc bad

-- what is done to the value leaves, for the machine and for both views
record Leaves
    (c o lock : ℕ) (gate gate' : Gate) (phase phase' : Phase) (registers registers' : Record)
    (run : Option ℕ)
    (event : Option Kind) (theirs_stepping : Bool) (r : Record) (run' : Option ℕ) : Type 0 where
  pub runs_by : RunIs run' c o (is_step_of c run') theirs_stepping
  pub made : Steps (machine_by c lock gate gate' phase phase' registers registers' run) c event
      (machine_by c lock gate gate' phase phase' r registers' run')

module _ {B D : Type 0} (v : View B D) (c o lock : ℕ) (gate gate' : Gate) (phase' : Phase)
    (registers' : Record) (run : Option ℕ) (theirs_stepping : Bool)
    (small : c < 2) (apart : c + o ≡ 1)
    (mine : SafeAt c lock gate v.phase phase' v.registers run)
    (theirs : SafeAt o lock gate' phase' v.phase registers' run)
    (step_is : RunIs run c o v.stepping theirs_stepping)
    (core : v.core ≡ c) (running : v.running ≡ run)
  where
    abbrev Left : Option Kind → Record → Option ℕ → Type 0
    Left event r run' = Leaves c o lock gate gate' v.phase phase' v.registers registers' run event
        theirs_stepping r run'

    -- the running step as it was
    same_step : RunIs run c o (is_step_of c run) theirs_stepping
    same_step = step_by c o apart run theirs_stepping mine.step_fits.of_a_core step_is.other
        (not_theirs v.stepping theirs_stepping apart step_is)

    -- another running step, where the core is quiet
    quiet_step : (run' : Option ℕ) → v.phase ≡ Quiet
        → ((run' ≡ None) ⊎ (run' ≡ Some 0) ⊎ (run' ≡ Some 1)) → run' ≢ Some o
        → RunIs run' c o (is_step_of c run') theirs_stepping
    quiet_step run' quiet is not_other =
        step_by c o apart run' theirs_stepping is
        (λ on. absurd (quiet_alone apart mine theirs quiet (step_is.other on))) (λ _. not_other)

    left_at : (event : Option Kind) (r0 r : Record) (run0 run' : Option ℕ) → r ≡ r0 → run' ≡ run0
        → Left event r0 run0 → Left event r run'
    left_at event r0 r run0 run' e f =
        subst (λ (z : Record × Option ℕ). Left event z.0 z.1) (λ k. (sym e k, sym f k))

    mine_of : v.running ≢ Some v.core → run ≢ Some c
    mine_of ne e = ne (running ∙ (e ∙ ap Some (sym core)))

    of_two : (c : ℕ) → c < 2 → (Some c ≡ None) ⊎ (Some c ≡ Some 0) ⊎ (Some c ≡ Some 1)
    of_two zero small = inr (inl refl)
    of_two (suc zero) small = inr (inr refl)
    of_two (suc (suc c)) small = absurd (omega arith)

    done : (event : Option Kind) (r : Record) (run' : Option ℕ) → Does event v r run'
        → Left event r run'
    done None r run' d = left_at None v.registers r run run' d.0 (d.1 ∙ running) (record {
      runs_by = same_step;
      made = no_step c lock gate gate' v.phase phase' v.registers registers' run small;
    })
    done (Some Save) r run' d =
        left_at (Some Save) (saved_and_masked v.registers) r run run' d.2 (d.3 ∙ running) (record {
          runs_by = same_step;
          made = save_step c lock gate gate' v.phase phase' v.registers registers' run small
              d.0 d.1;
        })
    done (Some Back) r run' d =
        left_at (Some Back) (restored v.registers) r run run' d.2 (d.3 ∙ running) (record {
          runs_by = same_step;
          made = back_step c lock gate gate' v.phase phase' v.registers registers' run small
              d.0 d.1;
        })
    done (Some (Set wanted)) r run' d =
        left_at (Some (Set wanted)) (record v.registers { regs = wanted }) r run run' d.3
        (d.4 ∙ running)
        (record {
          runs_by = same_step;
          made = set_step c lock gate gate' v.phase phase' v.registers registers' run small wanted d.0
              d.1 d.2;
        })
    done (Some (Fetch space)) r run' d =
        left_at (Some (Fetch space)) v.registers r run run' d.2 (d.3 ∙ running) (record {
          runs_by = same_step;
          made = fetch_step c lock gate gate' v.phase phase' v.registers registers' run small space d.0
              d.1;
        })
    done (Some Begin) r run' d =
        left_at (Some Begin) v.registers r (Some c) run' d.2 (d.3 ∙ ap Some core) (record {
          runs_by = quiet_step (Some c) d.0 (of_two c small)
              (λ e. let bad : c ≡ o = cc e in omega arith);
          made = begin_step c lock gate gate' v.phase phase' v.registers registers' run small d.0
              (mine_of d.1);
        })
    done (Some Done) r run' d = left_at (Some Done) v.registers r None run' d.2 d.3 (record {
      runs_by = quiet_step None d.0 (inl refl) (λ e. absurd (cc e));
      made = done_step c lock gate gate' v.phase phase' v.registers registers' run small d.0
          (sym running ∙ (d.1 ∙ ap Some core));
    })
    done (Some Start) r run' d = absurd d
    done (Some Rest) r run' d = absurd d
    done (Some Take) r run' d = absurd d
    done (Some Give) r run' d = absurd d
    done (Some Hold) r run' d = absurd d
    done (Some Ask) r run' d = absurd d
    done (Some Park) r run' d = absurd d
    done (Some See) r run' d = absurd d
    done (Some End) r run' d = absurd d
    done (Some Leave) r run' d = absurd d

-- a row of one slot, with that slot written
only : {A : Type 0} (l : List A) (a : A) → length l ≡ 1 → slice_set l 0 a ≡ a ∷ []
only [] a e = absurd (omega arith)
only (x ∷ []) a e = refl
only (x ∷ y ∷ l) a e = absurd (omega arith)

module _
    {S B D : Type 0}
    (records : S → ℕ → Record) (runs : S → Option ℕ) (stands : S → B → List D → List D → Type 0)
    (key : S) (id : ℕ) (me : Me (Option S) (View B D)) (one : me.0.stage ≡ One)
  where
    abbrev St : Type 0
    St = State (Option S) (View B D)

    -- the value at home is known to the seat that takes the turn
    knows_it : (s : State (Option S) (View B D)) (d : Side records runs stands s id me.0)
        (seen : List Entry)
        (h : AtHome records runs stands s.homes d.c d.o me.0.base me.0.registers d.w.registers
        me.0.share d.w.share d.run)
        → Known records runs stands h.value (with_turn me.0 d.w.registers d.w.share d.run seen)
    knows_it s d seen h =
        let q = d.pairing in let sum = sum_one d.c d.o d.apart in let core = q.cores.0 in
        let safe = safe_own records runs stands s id me.0 d in
        let safe' = safe_other records runs stands s id me.0 d in record {
          own = ap (records h.value) core ∙ h.own;
          other_is = ap (records h.value) (ap other core ∙ other_is d.apart) ∙ h.other;
          running = h.step;
          own_step = (
            (λ e. own_step me.0.stepping d.w.stepping sum q.step (e ∙ ap Some core)),
            λ on. q.step.own on ∙ ap Some (sym core),
          );
          nothing_runs = out_of_quiet sum safe safe';
          nothing_of_the_other =
              λ quiet e. quiet_alone sum safe safe' quiet
              (e ∙ ap Some (ap other core ∙ other_is d.apart));
          quiet_idle = λ quiet off. quiet_own sum safe safe' quiet
              (not_own_step me.0.stepping d.w.stepping sum q.step off);
          stands_by = subst (λ n. StandsBy stands h.value me.0.base n me.0.share d.w.share)
              (sym core) h.stands_by;
        }

    -- the pairing once the core took the turn
    turn_taken : (s : State (Option S) (View B D)) (d : Side records runs stands s id me.0)
        (homes : List (maybe.Option (Option S))) (seen : List Entry) → d.turn ≡ 0
        → Pairing records runs stands d.c d.o (d.c + 1) d.gate d.gate' d.run homes
        (with_turn me.0 d.w.registers d.w.share d.run seen) d.w
    turn_taken s d homes seen free =
        let q = d.pairing in let sum = sum_one d.c d.o d.apart in
        let small : d.c < 2 = below_two d.c d.o d.apart in
        let theirs : d.w.turn ≡ true
        → ⊥ = λ e. let at = q.turns.other.1 e in omega arith in record {
          cores = q.cores;
          bases = q.bases;
          step = q.step;
          turns = record {
            own = ((λ _. refl), λ _. refl);
            other = ((λ e. absurd (omega arith)), λ e. absurd (theirs e));
            at_most_two = omega arith;
          };
          mine = λ _. (refl, refl, refl);
          theirs = λ e. absurd (theirs e);
          home = λ e. absurd (omega arith);
          knows = q.knows;
          knows' = q.knows';
        }

    not_taken : (s : State (Option S) (View B D)) (d : Side records runs stands s id me.0)
        → d.turn ≡ 0 → me.0.turn ≡ false
    not_taken s d free = go me.0.turn (λ e. let at = d.pairing.turns.own.1 e in omega arith)
      where
        go : (b : Bool) → (b ≡ true → ⊥) → b ≡ false
        go true no_turn = absurd (no_turn refl)
        go false no_turn = refl

    -- a core takes the turn
    pub takes_turn : (slots to : ℕ) → me.0.core + 1 ≡ to
        → Allows (Ruled records runs stands key) slots id me 1 (λ n. either (eqb n 0) to n)
        (TellsTaken records runs stands (step slots 1 0 to none) me)
    takes_turn slots to at_to = λ s r sized found small.
        let d = side records runs stands key s id me.0 r one found in
        let n : ℕ = slice_index s.words 1 in
        let q = d.pairing in
        dite (ℕ_discrete n 0)
        (λ e.
        let free = sym (turn_is records runs stands s id me.0 d) ∙ e in
        let h = q.home free in
        let homes = slice_set s.homes 0 none in
        let own = entry me.0.core Took ∷ [] in
        let seen = d.story.run ++ own in
        let v' = with_turn me.0 d.w.registers d.w.share d.run seen in
        let core = sym q.cores.0 in
        let to_is : d.c + 1 ≡ to = ap (λ x. x + 1) core ∙ at_to in
        let b = lands records runs stands s id me.0 d (slice_set s.words 1 (d.c + 1)) homes own
        d.lock (d.c + 1) d.gate d.gate' d.run v'
        (ap (λ ws. slice_set ws 1 (d.c + 1)) d.numbers
        ∙ turn_in d.c d.o d.apart d.lock d.turn d.gate d.gate' (d.c + 1)) one refl
        (none_own me.0.core d.o Took [] (λ x. two_cores d.c d.o d.apart (core ∙ x)))
        (turn_taken s d homes seen free)
        (subst (λ x. Leads (d.story.run ++ entry x Took ∷ [])
        (machine_by d.c d.lock d.gate d.gate' me.0.phase d.w.phase me.0.registers d.w.registers
        d.run) (d.c + 1)) core
        (leads_turn d.story.run _ d.turn d.story.leads d.c Took refl
        (below_two d.c d.o d.apart) free)) in (
          v',
          takes 0 (Some h.value),
          ap (λ hs. get_elem? hs 0) h.home,
          subst (λ x. Ruled records runs stands key
              (at records runs stands s id (slice_set s.words 1 x) homes v'))
              (to_is ∙ sym (hit n 0 to e)) (inr (inl b.0)),
          (
            (λ _. (h.value, not_taken s d free, refl, refl, knows_it s d seen h, b.1)),
            λ ne. absurd (ne e),
          ),
        ))
        (λ ne. let h = sees_run records runs stands s id 1 me.0 d in
        let u = saw me.0 (d.story.run ++ []) in (
          u,
          keeps,
          tt,
          subst (λ x. Ruled records runs stands key
              (at records runs stands s id (slice_set s.words 1 x) s.homes u)) (sym (miss n 0 to ne))
              (inr (inl h.0)),
          ((λ e. absurd (ne e)), λ _. (refl, h.1)),
        ))

    -- the pairing once the core gave the turn back, with this value at home
    turn_given : (s : State (Option S) (View B D)) (d : Side records runs stands s id me.0)
        (homes : List (maybe.Option (Option S))) (x : S) (work : Work D) (seen : List Entry)
        → homes ≡ some (Some x) ∷ [] → me.0.turn ≡ true
        → (g : Gives records runs stands me.0 x work)
        → Leaves d.c d.o d.lock d.gate d.gate' me.0.phase d.w.phase me.0.registers d.w.registers
        d.run work.event d.w.stepping (records x me.0.core) (runs x)
        → Pairing records runs stands d.c d.o 0 d.gate d.gate' (runs x) homes
        (without_turn me.0 (records x me.0.core) (runs x) (me.0.share ++ work.items) seen) d.w
    turn_given s d homes x work seen is has g h =
        let q = d.pairing in let sum = sum_one d.c d.o d.apart in let core = q.cores.0 in
        let took = q.mine has in
        let theirs : d.w.turn ≡ true
        → ⊥ = λ e. let at = q.turns.other.1 e in let at' =
        q.turns.own.1 has in omega arith in record {
          cores = q.cores;
          bases = q.bases;
          step = subst (λ n. RunIs (runs x) d.c d.o (is_step_of n (runs x)) d.w.stepping)
              (sym core) h.runs_by;
          turns = record {
            own = ((λ e. absurd (omega arith)), λ e. absurd (cc e));
            other = ((λ e. absurd (omega arith)), λ e. absurd (theirs e));
            at_most_two = omega arith;
          };
          mine = λ e. absurd (cc e);
          theirs = λ e. absurd (theirs e);
          home = λ _. record {
            value = x;
            home = is;
            own = ap (records x) (sym core);
            other = ap (records x) (sym (ap other core ∙ other_is d.apart)) ∙ (g.other_is ∙ took.0);
            step = refl;
            stands_by = subst
                (λ (z : ℕ × List D).
                StandsBy stands x me.0.base z.0 (me.0.share ++ work.items) z.1)
                (λ k. (core k, took.1 k)) g.stands_by;
          };
          knows = q.knows;
          knows' = q.knows';
        }

    -- a core gives the turn back, with the value
    pub gives_turn : (slots : ℕ) (x : S) (work : Work D) → slots ≡ 1 → me.0.turn ≡ true
        → me.1 ≡ (0, Some x) ∷ [] → Gives records runs stands me.0 x work
        → Allows (Ruled records runs stands key) slots id me 1 (λ _. 0)
        (λ _. TellsGiven records runs stands work (step slots 1 0 0 none) me 0)
    gives_turn slots x work single has hand g = λ s r sized found small.
        let d = side records runs stands key s id me.0 r one found in
        let q = d.pairing in let took = q.mine has in let core = sym q.cores.0 in
        let own = handed me.0.core work.event in
        let seen = d.story.run ++ own in
        let v' = without_turn me.0 (records x me.0.core) (runs x) (me.0.share ++ work.items) seen in
        let homes : List (maybe.Option (Option S)) = slice_set s.homes 0 (some (Some x)) in
        let h = done me.0 d.c d.o d.lock d.gate d.gate' d.w.phase d.w.registers d.run d.w.stepping
        (below_two d.c d.o d.apart) (sum_one d.c d.o d.apart)
        (safe_own records runs stands s id me.0 d) (safe_other records runs stands s id me.0 d)
        q.step q.cores.0 took.2 work.event (records x me.0.core) (runs x) g.does in
        let b = lands records runs stands s id me.0 d (slice_set s.words 1 0) homes own d.lock 0
        d.gate d.gate' (runs x) v'
        (ap (λ ws. slice_set ws 1 0) d.numbers
        ∙ turn_in d.c d.o d.apart d.lock d.turn d.gate d.gate' 0) one refl
        (none_handed me.0.core d.o work.event (λ e. two_cores d.c d.o d.apart (core ∙ e)))
        (turn_given s d homes x work seen (only s.homes (some (Some x)) (sized ∙ single)) has g h)
        (subst (λ c. Leads (d.story.run ++ handed c work.event)
        (machine_by d.c d.lock d.gate d.gate' me.0.phase d.w.phase (records x me.0.core)
        d.w.registers (runs x)) 0) core
        (leads_handed d.story.run _ _ d.turn d.c work.event d.story.leads
        (below_two d.c d.o d.apart) (q.turns.own.1 has) h.made))
        in (
          v',
          gives,
          tt,
          subst (λ hs. Ruled records runs stands key
              (at records runs stands s id (slice_set s.words 1 0) hs v'))
              (ap (put_back s.homes) (sym hand)) (inr (inl b.0)),
          λ y hand_is. (told seen y (same x y (sym hand ∙ hand_is)), b.1),
        )
      where
        same : (x y : S) → ◌≡◌ {A = List (ℕ × Option S)} ((0, Some x) ∷ []) ((0, Some y) ∷ [])
            → x ≡ y
        same x y e = let first : ◌≡◌ {A = ℕ × Option S} (0, Some x) (0, Some y) =
            cc e in let second : Some x ≡ Some y = ap (λ z. z.1) first in cc second

        told : (seen : List Entry) (y : S) → x ≡ y
            → ◌≡◌ {A = Me (Option S) (View B D)} (
              without_turn me.0 (records x me.0.core) (runs x) (me.0.share ++ work.items) seen,
              rest me.1,
            )
            (without_turn me.0 (records y me.0.core) (runs y) (me.0.share ++ work.items) seen, [])
        told seen y e = λ k. (
          without_turn me.0 (records (e k) me.0.core) (runs (e k)) (me.0.share ++ work.items) seen,
          rest (hand k),
        )
