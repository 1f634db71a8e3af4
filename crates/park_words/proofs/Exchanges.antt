-- A step on a word: an event of the machine, or a look that changes nothing.
use Rattle.std.proofs.Common.{◌≡◌, ◌≢◌, ℕ, zero, suc, ◌+◌, ◌++◌, ◌∙◌, ap, subst, sym, refl, inl, inr, Bool, true, false, List, [], ◌∷◌, slice_index, slice_set, Option, Some, None, eqb, eq-eqb, ne_eqb, arith, ◌↔◌}
use mathlib.Core.Logic.{dite}
use mathlib.Core.Option.{none}
use mathlib.Core.Option as maybe
use native.Mathlib.Decide.{ℕ_discrete}
use prog.Atomic.{either}
use Rattle.core_state.specs.declared.registers.Record.{Record}
use Rattle.atomic_table.specs.Table.{State, Me, step, keeps, Allows}
use Rattle.duo_machine.specs.declared.machine.Gate.{Gate}
use Rattle.duo_machine.specs.declared.machine.Gate.TheVariants.{Rest as AtRest, Run, Asked, Parked as AtParked, Freed, Held}
use Rattle.duo_machine.specs.declared.machine.Phase.{Phase}
use Rattle.duo_machine.specs.declared.machine.Machine.{Machine}
use Rattle.duo_machine.specs.declared.events.Kind.{Kind}
use Rattle.duo_machine.specs.Machine.{other, gate_of, phase_of, record_of}
use Rattle.park_words.specs.declared.view.Act.TheVariants.{Made}
use Rattle.park_words.specs.declared.view.Entry.{Entry}
use Rattle.park_words.specs.declared.view.Stage.TheVariants.{One}
use Rattle.park_words.specs.declared.view.View.{View}
use Rattle.park_words.specs.Views.{gate_word, held_gate, moved, saw}
use Rattle.park_words.specs.Story.{entry, done_by, NeedsTurn, word_of, Leads, Story, Agrees, Went, Looks}
use Rattle.park_words.specs.Rule.{RunIs, KnowsGate, Pairing, Paired, Ruled}
use Rattle.park_words.specs.Told.{Tells, TellsExchange, TellsLoad}
use Rattle.park_words.proofs.MachineSteps.{Steps, machine_by, Apart, by_two, sum_one, below_two}
use Rattle.park_words.proofs.Stories.{none_own, leads_none, leads_made, grows, went}
use Rattle.park_words.proofs.Sides.{row, words_of, word_same, at, Side, side}

-- the gate that a number stands for
gate_at : ℕ → Gate
gate_at zero = AtRest
gate_at (suc zero) = Run
gate_at (suc (suc zero)) = Asked
gate_at (suc (suc (suc zero))) = AtParked
gate_at (suc (suc (suc (suc zero)))) = Freed
gate_at (suc (suc (suc (suc (suc n))))) = Held

gate_back : (g : Gate) → gate_at (gate_word g) ≡ g
unfolding gate_at
gate_back AtRest = refl
gate_back Run = refl
gate_back Asked = refl
gate_back AtParked = refl
gate_back Freed = refl
gate_back Held = refl

-- two gates of one number are one gate
pub same_gate : (g h : Gate) → gate_word g ≡ gate_word h → g ≡ h
same_gate g h e = sym (gate_back g) ∙ (ap gate_at e ∙ gate_back h)

-- what an exchange leaves where it hits, and where it misses
pub hit : (n old new : ℕ) → n ≡ old → either (eqb n old) new n ≡ new
hit n old new e = ap (λ b. either b new n) (eq-eqb n old e)

pub miss : (n old new : ℕ) → n ≢ old → either (eqb n old) new n ≡ n
miss n old new e = ap (λ b. either b new n) (ne_eqb n old e)

-- where no step of the core runs, the running step is not its own
pub not_own_step : {run : Option ℕ} {c o : ℕ} (mine theirs : Bool) → c + o ≡ 1
    → RunIs run c o mine theirs → mine ≡ false → run ≢ Some c
not_own_step true theirs apart r off e = let bad : true ≡ false = off in cc bad
not_own_step {run} {c} {o} false true apart r off e = let same : Some o ≡ Some c =
    sym (r.other refl) ∙ e in let bad : o ≡ c = cc same in omega arith
not_own_step {run} {c} {o} false false apart r off e = let bad : None ≡ Some c =
    sym (r.none refl refl) ∙ e in cc bad

-- the running step is the core's own exactly where its view says so
pub own_step : {run : Option ℕ} {c o : ℕ} (mine theirs : Bool) → c + o ≡ 1
    → RunIs run c o mine theirs → run ≡ Some c → mine ≡ true
own_step true theirs apart r e = refl
own_step {run} {c} {o} false true apart r e = let same : Some o ≡ Some c = sym (r.other refl)
    ∙ e in let bad : o ≡ c = cc same in absurd (omega arith)
own_step {run} {c} {o} false false apart r e = let bad : None ≡ Some c = sym (r.none refl refl)
    ∙ e in absurd (cc bad)

-- the two cores are not one
pub two_cores : (c o : ℕ) → Apart c o → c ≢ o
two_cores c o apart e = let sum = sum_one c o apart in omega arith

module _
    {S B D : Type 0}
    (records : S → ℕ → Record) (runs : S → Option ℕ) (stands : S → B → List D → List D → Type 0)
  where
    abbrev pub St : Type 0
    St = State (Option S) (View B D)

    abbrev pub Homes : Type 0
    Homes = List (maybe.Option (Option S))

    -- a pairing with another phase of this core, other gates, and more that this core has seen
    rephase : {c o turn : ℕ} {gate gate' g g' : Gate} {run : Option ℕ} {homes : Homes}
        {v w : View B D} (phase : Phase) (held : Bool) (seen : List Entry)
        → Pairing records runs stands c o turn gate gate' run homes v w
        → KnowsGate phase held g' → KnowsGate w.phase w.held g
        → Pairing records runs stands c o turn g g' run homes (moved v phase held seen) w
    rephase phase held seen p knows knows' = record {
      cores = p.cores;
      bases = p.bases;
      step = p.step;
      turns = p.turns;
      mine = p.mine;
      theirs = p.theirs;
      home = p.home;
      knows = knows;
      knows' = knows';
    }

    -- a pairing with more that this core has seen
    more_seen : {c o turn : ℕ} {gate gate' : Gate} {run : Option ℕ} {homes : Homes}
        {v w : View B D} (seen : List Entry)
        → Pairing records runs stands c o turn gate gate' run homes v w
        → Pairing records runs stands c o turn gate gate' run homes (saw v seen) w
    more_seen seen p = record {
      cores = p.cores;
      bases = p.bases;
      step = p.step;
      turns = p.turns;
      mine = p.mine;
      theirs = p.theirs;
      home = p.home;
      knows = p.knows;
      knows' = p.knows';
    }

    -- what the seat of a pairing knows is so in its machine
    pub agrees : (c o lock turn : ℕ) (g g' : Gate) (run : Option ℕ) (homes : Homes)
        (v w : View B D) → Apart c o → Pairing records runs stands c o turn g g' run homes v w
        → Agrees v (machine_by c lock g g' v.phase w.phase v.registers w.registers run) turn
    agrees c o lock turn g g' run homes v w apart q =
        let m = machine_by c lock g g' v.phase w.phase v.registers w.registers run in
        let core = sym q.cores.0 in
        let runs_there : m.running ≡ run = by_two
        (λ c o. (machine_by c lock g g' v.phase w.phase v.registers w.registers run).running ≡ run)
        c o apart refl refl in record {
          phase = subst (λ x. phase_of m x ≡ v.phase) core (by_two
              (λ c o. phase_of (machine_by c lock g g' v.phase w.phase v.registers w.registers run)
              c ≡ v.phase) c o apart refl refl);
          registers = subst (λ x. record_of m x ≡ v.registers) core (by_two
              (λ c o. record_of (machine_by c lock g g' v.phase w.phase v.registers w.registers run)
              c ≡ v.registers) c o apart refl refl);
          step = (
            λ e. own_step v.stepping w.stepping (sum_one c o apart) q.step
                (sym runs_there ∙ (e ∙ ap Some q.cores.0)),
            λ on. runs_there ∙ (q.step.own on ∙ ap Some core),
          );
          has_turn = subst (λ x. (turn ≡ x + 1) ↔ (v.turn ≡ true)) core q.turns.own;
          held = λ quiet. subst (λ x. gate_of m (other x) ≡ held_gate v.held) core (by_two
              (λ c o. gate_of (machine_by c lock g g' v.phase w.phase v.registers w.registers run)
              (other c) ≡ g') c o apart refl refl ∙ q.knows quiet);
          taken = λ has. let took = q.mine has in (
            subst (λ x. record_of m (other x) ≡ v.other) core (by_two
                (λ c o. record_of
                (machine_by c lock g g' v.phase w.phase v.registers w.registers run)
                (other c) ≡ w.registers) c o apart refl refl ∙ sym took.0),
            runs_there ∙ sym took.2,
          );
        }

    -- a step of the seat that leads the run on by these entries of its core: the rule holds of the
    -- state then, and the seat's view went on
    pub lands : (s : St) (id : ℕ) (v : View B D) (d : Side records runs stands s id v)
        (ws : List ℕ) (homes : Homes) (own : List Entry) (lock turn : ℕ) (g g' : Gate)
        (run : Option ℕ) (v' : View B D)
        → ws ≡ row d.c lock turn g g' → v'.stage ≡ One → v'.seen ≡ d.story.run ++ own
        → done_by d.o own ≡ []
        → Pairing records runs stands d.c d.o turn g g' run homes v' d.w
        → Leads (d.story.run ++ own)
        (machine_by d.c lock g g' v'.phase d.w.phase v'.registers d.w.registers run) turn
        → Paired records runs stands (at records runs stands s id ws homes v') × Went own v v'
    lands s id v d ws homes own lock turn g g' run v' is one seen not_theirs q l =
        let m = machine_by d.c lock g g' v'.phase d.w.phase v'.registers d.w.registers run in (
          d.make ws homes lock turn g g' run v' is one q
              (subst (λ x. Story m turn d.c d.o x d.w.seen) (sym seen)
              (grows _ m d.turn turn d.c d.o v.seen d.w.seen own d.story not_theirs l)),
          went _ m d.turn turn d.c d.o v v' d.w.seen own d.story d.pairing.cores.0 seen l
              (agrees d.c d.o lock turn g g' run homes v' d.w d.apart q),
        )

    -- what an event of the seat's core leaves, at which the word i becomes n
    abbrev pub Event : (s : St) (id i n : ℕ) → Kind → Phase → Bool → (v : View B D)
        → Side records runs stands s id v → Type 0
    Event s id i n kind phase held v d =
        let own = entry v.core (Made kind) ∷ [] in
        let v' = moved v phase held (d.story.run ++ own) in
        Paired records runs stands (at records runs stands s id (slice_set s.words i n) s.homes v')
        × Went own v v'

    -- an event on a word: the row of words, the machine and what is known of the gates say what it
    -- is
    pub happens : (s : St) (id i n : ℕ) (kind : Kind) (phase : Phase) (held : Bool) (v : View B D)
        (d : Side records runs stands s id v) (lock : ℕ) (g g' : Gate)
        → (NeedsTurn kind → ⊥)
        → slice_set (row d.c d.lock d.turn d.gate d.gate') i n ≡ row d.c lock d.turn g g'
        → Steps (machine_by d.c d.lock d.gate d.gate' v.phase d.w.phase v.registers d.w.registers
        d.run) d.c (Some kind)
        (machine_by d.c lock g g' phase d.w.phase v.registers d.w.registers d.run)
        → KnowsGate phase held g' → KnowsGate d.w.phase d.w.held g
        → Event s id i n kind phase held v d
    happens s id i n kind phase held v d lock g g' free row_is makes knows knows' =
        let own = entry v.core (Made kind) ∷ [] in
        let core = sym d.pairing.cores.0 in
        let v' = moved v phase held (d.story.run ++ own) in
        let m' = machine_by d.c lock g g' phase d.w.phase v.registers d.w.registers d.run in
        lands s id v d (slice_set s.words i n) s.homes own lock d.turn g g' d.run v'
        (ap (λ ws. slice_set ws i n) d.numbers ∙ row_is) d.one refl
        (none_own v.core d.o (Made kind) [] (λ e. two_cores d.c d.o d.apart (core ∙ e)))
        (rephase phase held (d.story.run ++ own) d.pairing knows knows')
        (subst (λ (z : ℕ × Machine). Leads (d.story.run ++ entry z.0 (Made kind) ∷ []) z.1 d.turn)
        (λ k. (core k, sym makes.1 k))
        (leads_made d.story.run _ d.turn d.story.leads d.c kind (below_two d.c d.o d.apart) makes.0
        (λ needs. absurd (free needs))))

    -- a step that leaves words and slots as they are: the seat sees the run so far, and the number
    -- that stands in the word where it leads
    pub sees_run : (s : St) (id i : ℕ) (v : View B D) (d : Side records runs stands s id v)
        → Paired records runs stands
        (at records runs stands s id (slice_set s.words i (slice_index s.words i)) s.homes
        (saw v (d.story.run ++ [])))
        × Looks i (slice_index s.words i) v (saw v (d.story.run ++ []))
    sees_run s id i v d =
        let l = leads_none d.story.run _ d.turn d.story.leads in
        let h = lands s id v d (slice_set s.words i (slice_index s.words i)) s.homes [] d.lock
        d.turn d.gate d.gate' d.run (saw v (d.story.run ++ []))
        (word_same s.words i ∙ d.numbers) d.one refl refl
        (more_seen (d.story.run ++ []) d.pairing) l in (
          h.0,
          (
            h.1,
            (λ k. word_of (l.there k) (l.turn_there k) i)
                ∙ (words_of d.c d.o d.apart d.lock d.turn d.gate d.gate' v.phase d.w.phase
                v.registers d.w.registers d.run i
                ∙ ap (λ ws. slice_index ws i) (sym d.numbers)),
          ),
        )

    -- an exchange on a word is the event, where each state that has the awaited number there allows
    -- it
    pub exchanges : (key : S) (slots id i from to : ℕ) (me : Me (Option S) (View B D)) (kind : Kind)
        (phase : Phase) (held : Bool) → me.0.stage ≡ One
        → ((s : State (Option S) (View B D)) (d : Side records runs stands s id me.0)
        → slice_index s.words i ≡ from → Event s id i to kind phase held me.0 d)
        → Allows (Ruled records runs stands key) slots id me i (λ n. either (eqb n from) to n)
        (TellsExchange kind phase held (step slots i from to none) me)
    exchanges key slots id i from to me kind phase held one happen = λ s r sized found small.
        let d = side records runs stands key s id me.0 r one found in
        let n : ℕ = slice_index s.words i in
        let v' = moved me.0 phase held (d.story.run ++ entry me.0.core (Made kind) ∷ []) in
        let u = saw me.0 (d.story.run ++ []) in
        dite (ℕ_discrete n from)
        (λ e. let h = happen s d e in (
          v',
          keeps,
          tt,
          subst (λ x. Ruled records runs stands key
              (at records runs stands s id (slice_set s.words i x) s.homes v'))
              (sym (hit n from to e)) (inr (inl h.0)),
          ((λ _. (refl, h.1)), λ ne. absurd (ne e)),
        ))
        (λ ne. let h = sees_run s id i me.0 d in (
          u,
          keeps,
          tt,
          subst (λ x. Ruled records runs stands key
              (at records runs stands s id (slice_set s.words i x) s.homes u))
              (sym (miss n from to ne)) (inr (inl h.0)),
          ((λ e. absurd (ne e)), λ _. (refl, h.1)),
        ))

    -- a load of a word that awaits a number is the event in the same way
    pub looks : (key : S) (slots id i awaited : ℕ) (me : Me (Option S) (View B D)) (kind : Kind)
        (phase : Phase) (held : Bool) → me.0.stage ≡ One
        → ((s : State (Option S) (View B D)) (d : Side records runs stands s id me.0)
        → slice_index s.words i ≡ awaited
        → Event s id i awaited kind phase held me.0 d)
        → Allows (Ruled records runs stands key) slots id me i (λ n. n)
        (Tells kind phase held awaited (step slots i 0 0 none) me)
    looks key slots id i awaited me kind phase held one happen = λ s r sized found small.
        let d = side records runs stands key s id me.0 r one found in
        let n : ℕ = slice_index s.words i in
        let v' = moved me.0 phase held (d.story.run ++ entry me.0.core (Made kind) ∷ []) in
        dite (ℕ_discrete n awaited)
        (λ e. let h = happen s d e in (
          v',
          keeps,
          tt,
          subst (λ x. Ruled records runs stands key
              (at records runs stands s id (slice_set s.words i x) s.homes v'))
              (sym e) (inr (inl h.0)),
          ((λ _. (refl, h.1)), λ ne. absurd (ne e)),
        ))
        (λ ne. let h = sees_run s id i me.0 d in (
          saw me.0 (d.story.run ++ []),
          keeps,
          tt,
          inr (inl h.0),
          ((λ e. absurd (ne e)), λ _. (refl, h.1)),
        ))

    -- a load tells the word
    pub loads : (key : S) (slots id i : ℕ) (me : Me (Option S) (View B D)) → me.0.stage ≡ One
        → Allows (Ruled records runs stands key) slots id me i (λ n. n)
        (TellsLoad (step slots i 0 0 none) me)
    loads key slots id i me one = λ s r sized found small.
        let d = side records runs stands key s id me.0 r one found in
        let h = sees_run s id i me.0 d
        in (saw me.0 (d.story.run ++ []), keeps, tt, inr (inl h.0), (refl, h.1))
