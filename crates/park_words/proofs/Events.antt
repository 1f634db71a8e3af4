-- Each event on a word, as the step of the table that makes it.
use Rattle.std.proofs.Common.{◌≡◌, ℕ, ◌+◌, ◌∙◌, ap, subst, sym, refl, inl, inr, Bool, true, false, List, slice_index, slice_set, Option, Some, eqb, arith}
use Rattle.std.specs.Prelude.{IsSome, IsNone}
use mathlib.Core.Option.{none}
use prog.Atomic.{either}
use Rattle.core_state.specs.declared.registers.Record.{Record}
use Rattle.atomic_table.specs.Table.{State, Me, step, Allows}
use Rattle.duo_machine.specs.declared.machine.Gate.{Gate}
use Rattle.duo_machine.specs.declared.machine.Gate.TheVariants.{Rest as AtRest, Run, Asked, Parked as AtParked, Freed, Held}
use Rattle.duo_machine.specs.declared.machine.Phase.{Phase}
use Rattle.duo_machine.specs.declared.machine.Phase.TheVariants.{Resting, Running, Owning, Asking, Quiet, Parked}
use Rattle.duo_machine.specs.declared.machine.Machine.{Machine}
use Rattle.duo_machine.specs.declared.events.Kind.{Kind}
use Rattle.duo_machine.specs.declared.events.Kind.TheVariants.{Start, Rest, Take, Give, Hold, Ask, Park, See, End, Leave}
use Rattle.duo_machine.specs.Machine.{KeepsAway, let_go}
use Rattle.park_words.specs.declared.view.Stage.TheVariants.{One}
use Rattle.park_words.specs.declared.view.View.{View}
use Rattle.park_words.specs.Views.{gate_word, held_gate}
use Rattle.park_words.specs.Story.{NeedsTurn}
use Rattle.park_words.specs.Rule.{KnowsGate, Ruled}
use Rattle.park_words.specs.Told.{Tells, TellsExchange}
use Rattle.park_words.proofs.MachineSteps.{Steps, machine_by, sum_one, below_two, start_step, rest_step, park_step, leave_step, take_step, give_step, ask_step, hold_step, see_step, end_step}
use Rattle.park_words.proofs.Sides.{row, with_lock, with_gate, with_other, Side, lock_is, gate_is, gate_is'}
use Rattle.park_words.proofs.Exchanges.{same_gate, not_own_step, Event, happens, exchanges, looks}

-- a gate that is held or parked is no other one
not_rest : (g : Gate) (held : Bool) → g ≡ AtRest → g ≡ held_gate held → ⊥
not_rest g true a b = let bad : AtRest ≡ Held = sym a ∙ b in cc bad
not_rest g false a b = let bad : AtRest ≡ AtParked = sym a ∙ b in cc bad

not_run : (g : Gate) (held : Bool) → g ≡ Run → g ≡ held_gate held → ⊥
not_run g true a b = let bad : Run ≡ Held = sym a ∙ b in cc bad
not_run g false a b = let bad : Run ≡ AtParked = sym a ∙ b in cc bad

not_asked : (g : Gate) (held : Bool) → g ≡ Asked → g ≡ held_gate held → ⊥
not_asked g true a b = let bad : Asked ≡ Held = sym a ∙ b in cc bad
not_asked g false a b = let bad : Asked ≡ AtParked = sym a ∙ b in cc bad

not_freed : (g : Gate) (held : Bool) → g ≡ Freed → g ≡ held_gate held → ⊥
not_freed g true a b = let bad : Freed ≡ Held = sym a ∙ b in cc bad
not_freed g false a b = let bad : Freed ≡ AtParked = sym a ∙ b in cc bad

away : (g : Gate) (held : Bool) → g ≡ held_gate held → KeepsAway g
away g true e = inr e
away g false e = inl e

module _
    {S B D : Type 0}
    (records : S → ℕ → Record) (runs : S → Option ℕ) (stands : S → B → List D → List D → Type 0)
  where
    abbrev St : Type 0
    St = State (Option S) (View B D)

    module _ (key : S) (slots id : ℕ) (me : Me (Option S) (View B D)) (one : me.0.stage ≡ One) where
      -- the machine of a state, with another lock, other gates and another phase of this core
      abbrev at_side : (s : St) (d : Side records runs stands s id me.0) → ℕ → Gate → Gate → Phase
          → Machine
      at_side s d lock g g' phase =
          machine_by d.c lock g g' phase d.w.phase me.0.registers d.w.registers d.run

      -- an event on the lock
      at_lock : (from to : ℕ) (kind : Kind) (phase : Phase) → (NeedsTurn kind → ⊥)
          → ((g : Gate) → KnowsGate phase false g)
          → ((s : State (Option S) (View B D)) (d : Side records runs stands s id me.0)
          → d.lock ≡ from
          → Steps (at_side s d d.lock d.gate d.gate' me.0.phase) d.c (Some kind)
          (at_side s d to d.gate d.gate' phase))
          → Allows (Ruled records runs stands key) slots id me 0 (λ n. either (eqb n from) to n)
          (TellsExchange kind phase false (step slots 0 from to none) me)
      at_lock from to kind phase free knows makes =
          exchanges records runs stands key slots id 0 from to me kind phase false one (λ s d e.
          happens records runs stands s id 0 to kind phase false me.0 d to d.gate d.gate' free
          (with_lock d.c d.o d.apart d.lock d.turn d.gate d.gate' to)
          (makes s d (sym (lock_is records runs stands s id me.0 d) ∙ e)) (knows d.gate')
          d.pairing.knows')

      -- an event on the own gate
      at_own : (i : ℕ) (from to : Gate) (kind : Kind) (phase : Phase) → me.0.core + 2 ≡ i
          → (NeedsTurn kind → ⊥) → ((g : Gate) → KnowsGate phase false g)
          → ((held : Bool) → from ≡ held_gate held → ⊥)
          → ((s : State (Option S) (View B D)) (d : Side records runs stands s id me.0)
          → d.gate ≡ from
          → Steps (at_side s d d.lock d.gate d.gate' me.0.phase) d.c (Some kind)
          (at_side s d d.lock to d.gate' phase))
          → Allows (Ruled records runs stands key) slots id me i
          (λ n. either (eqb n (gate_word from)) (gate_word to) n)
          (TellsExchange kind phase false (step slots i (gate_word from) (gate_word to) none) me)
      at_own i from to kind phase place free knows not_held makes =
          exchanges records runs stands key slots id i (gate_word from) (gate_word to) me kind phase false one
          (λ s d e.
          let there : d.c + 2 ≡ i = ap (λ x. x + 2) (sym d.pairing.cores.0) ∙ place in
          let is : d.gate ≡ from = same_gate d.gate from
          (sym (gate_is records runs stands s id me.0 d)
          ∙ (ap (λ x. slice_index s.words x) there ∙ e)) in
          happens records runs stands s id i (gate_word to) kind phase false me.0 d d.lock to d.gate' free
          (subst (λ x. slice_set (row d.c d.lock d.turn d.gate d.gate') x (gate_word to)
          ≡ row d.c d.lock d.turn to d.gate') there
          (with_gate d.c d.o d.apart d.lock d.turn d.gate d.gate' to))
          (makes s d is) (knows d.gate')
          (λ quiet. absurd (not_held d.w.held (sym is ∙ d.pairing.knows' quiet))))

      -- what an event on the other gate needs of each state in which that gate is the awaited one
      other_happens : (i : ℕ) (from to : Gate) (kind : Kind) (phase : Phase) (held : Bool)
          → me.0.core + i ≡ 3 → (NeedsTurn kind → ⊥) → KnowsGate phase held to
          → ((s : State (Option S) (View B D)) (d : Side records runs stands s id me.0)
          → d.gate' ≡ from
          → Steps (at_side s d d.lock d.gate d.gate' me.0.phase) d.c (Some kind)
          (at_side s d d.lock d.gate to phase))
          → (s : State (Option S) (View B D)) (d : Side records runs stands s id me.0)
          → slice_index s.words i ≡ gate_word from
          → Event records runs stands s id i (gate_word to) kind phase held me.0 d
      other_happens i from to kind phase held place free knows makes s d e =
          let sum = sum_one d.c d.o d.apart in let core = d.pairing.cores.0 in
          let there : d.o + 2 ≡ i = omega arith in
          let is : d.gate' ≡ from = same_gate d.gate' from
          (sym (gate_is' records runs stands s id me.0 d)
          ∙ (ap (λ x. slice_index s.words x) there ∙ e)) in
          happens records runs stands s id i (gate_word to) kind phase held me.0 d d.lock d.gate to free
          (subst (λ x. slice_set (row d.c d.lock d.turn d.gate d.gate') x (gate_word to)
          ≡ row d.c d.lock d.turn d.gate to) there
          (with_other d.c d.o d.apart d.lock d.turn d.gate d.gate' to))
          (makes s d is) knows d.pairing.knows'

      at_other : (i : ℕ) (from to : Gate) (kind : Kind) (phase : Phase) (held : Bool)
          → me.0.core + i ≡ 3 → (NeedsTurn kind → ⊥) → KnowsGate phase held to
          → ((s : State (Option S) (View B D)) (d : Side records runs stands s id me.0)
          → d.gate' ≡ from
          → Steps (at_side s d d.lock d.gate d.gate' me.0.phase) d.c (Some kind)
          (at_side s d d.lock d.gate to phase))
          → Allows (Ruled records runs stands key) slots id me i
          (λ n. either (eqb n (gate_word from)) (gate_word to) n)
          (TellsExchange kind phase held (step slots i (gate_word from) (gate_word to) none) me)
      at_other i from to kind phase held place free knows makes =
          exchanges records runs stands key slots id i (gate_word from) (gate_word to) me kind phase held one
          (other_happens i from to kind phase held place free knows makes)

      -- a running core takes the lock
      pub takes_lock : (to : ℕ) → me.0.core + 1 ≡ to → me.0.phase ≡ Running
          → Allows (Ruled records runs stands key) slots id me 0 (λ n. either (eqb n 0) to n)
          (TellsExchange Take Owning false (step slots 0 0 to none) me)
      takes_lock to mine is = at_lock 0 to Take Owning (λ e. e) (λ g bad. absurd (cc bad))
          (λ s d free.
          let to_is : d.c + 1 ≡ to = ap (λ x. x + 1) (sym d.pairing.cores.0) ∙ mine in
          subst (λ x. Steps (at_side s d d.lock d.gate d.gate' me.0.phase) d.c (Some Take)
          (at_side s d x d.gate d.gate' Owning)) to_is
          (take_step d.c d.lock d.gate d.gate' me.0.phase d.w.phase me.0.registers d.w.registers
          d.run (below_two d.c d.o d.apart) is free))

      -- an owner gives the lock back
      pub gives_lock : (from : ℕ) → me.0.core + 1 ≡ from → me.0.phase ≡ Owning
          → IsNone me.0.registers.saved
          → Allows (Ruled records runs stands key) slots id me 0 (λ n. either (eqb n from) 0 n)
          (TellsExchange Give Running false (step slots 0 from 0 none) me)
      gives_lock from mine is unsaved =
          at_lock from 0 Give Running (λ e. e) (λ g bad. absurd (cc bad))
          (λ s d e. give_step d.c d.lock d.gate d.gate' me.0.phase d.w.phase me.0.registers
          d.w.registers d.run (below_two d.c d.o d.apart) is unsaved
          (e ∙ (sym mine ∙ ap (λ x. x + 1) d.pairing.cores.0)))

      -- a resting core starts
      pub starts : (i : ℕ) → me.0.core + 2 ≡ i → me.0.phase ≡ Resting
          → Allows (Ruled records runs stands key) slots id me i (λ n. either (eqb n 0) 1 n)
          (TellsExchange Start Running false (step slots i 0 1 none) me)
      starts i place is = at_own i AtRest Run Start Running place (λ e. e)
          (λ g bad. absurd (cc bad)) (λ held. not_rest AtRest held refl)
          (λ s d e. start_step d.c d.lock d.gate d.gate' me.0.phase d.w.phase me.0.registers
          d.w.registers d.run (below_two d.c d.o d.apart) is e)

      -- a masked core that runs goes to rest
      pub rests : (i : ℕ) → me.0.core + 2 ≡ i → me.0.phase ≡ Running → IsSome me.0.registers.saved
          → Allows (Ruled records runs stands key) slots id me i (λ n. either (eqb n 1) 0 n)
          (TellsExchange Rest Resting false (step slots i 1 0 none) me)
      rests i place is saved = at_own i Run AtRest Rest Resting place (λ e. e)
          (λ g bad. absurd (cc bad)) (λ held. not_run Run held refl)
          (λ s d e. rest_step d.c d.lock d.gate d.gate' me.0.phase d.w.phase me.0.registers
          d.w.registers d.run (below_two d.c d.o d.apart) is saved e)

      -- a masked core parks as it was asked
      pub parks : (i : ℕ) → me.0.core + 2 ≡ i → me.0.phase ≡ Running → IsSome me.0.registers.saved
          → Allows (Ruled records runs stands key) slots id me i (λ n. either (eqb n 2) 3 n)
          (TellsExchange Park Parked false (step slots i 2 3 none) me)
      parks i place is saved = at_own i Asked AtParked Park Parked place (λ e. e)
          (λ g bad. absurd (cc bad)) (λ held. not_asked Asked held refl)
          (λ s d e. park_step d.c d.lock d.gate d.gate' me.0.phase d.w.phase me.0.registers
          d.w.registers d.run (below_two d.c d.o d.apart) is saved e)

      -- a freed core runs again
      pub leaves : (i : ℕ) → me.0.core + 2 ≡ i → me.0.phase ≡ Parked
          → Allows (Ruled records runs stands key) slots id me i (λ n. either (eqb n 4) 1 n)
          (TellsExchange Leave Running false (step slots i 4 1 none) me)
      leaves i place is = at_own i Freed Run Leave Running place (λ e. e)
          (λ g bad. absurd (cc bad)) (λ held. not_freed Freed held refl)
          (λ s d e. leave_step d.c d.lock d.gate d.gate' me.0.phase d.w.phase me.0.registers
          d.w.registers d.run (below_two d.c d.o d.apart) is e)

      -- an owner asks the other core to park
      pub asks : (i : ℕ) → me.0.core + i ≡ 3 → me.0.phase ≡ Owning → IsSome me.0.registers.saved
          → Allows (Ruled records runs stands key) slots id me i (λ n. either (eqb n 1) 2 n)
          (TellsExchange Ask Asking false (step slots i 1 2 none) me)
      asks i place is saved = at_other i Run Asked Ask Asking false place (λ e. e)
          (λ bad. absurd (cc bad))
          (λ s d e. ask_step d.c d.lock d.gate d.gate' me.0.phase d.w.phase me.0.registers
          d.w.registers d.run (below_two d.c d.o d.apart) is saved e)

      -- an owner holds the other core at rest
      pub holds : (i : ℕ) → me.0.core + i ≡ 3 → me.0.phase ≡ Owning → IsSome me.0.registers.saved
          → Allows (Ruled records runs stands key) slots id me i (λ n. either (eqb n 0) 5 n)
          (TellsExchange Hold Quiet true (step slots i 0 5 none) me)
      holds i place is saved = at_other i AtRest Held Hold Quiet true place (λ e. e) (λ _. refl)
          (λ s d e. hold_step d.c d.lock d.gate d.gate' me.0.phase d.w.phase me.0.registers
          d.w.registers d.run (below_two d.c d.o d.apart) is saved e)

      -- a core that asked sees the other one parked
      pub sees : (i : ℕ) → me.0.core + i ≡ 3 → me.0.phase ≡ Asking
          → Allows (Ruled records runs stands key) slots id me i (λ n. n)
          (Tells See Quiet false 3 (step slots i 0 0 none) me)
      sees i place is = looks records runs stands key slots id i 3 me See Quiet false one
          (other_happens i AtParked AtParked See Quiet false place (λ e. e) (λ _. refl)
          (λ s d e. subst (λ g. Steps (at_side s d d.lock d.gate d.gate' me.0.phase) d.c (Some See)
          (at_side s d d.lock d.gate g Quiet)) e
          (see_step d.c d.lock d.gate d.gate' me.0.phase d.w.phase me.0.registers d.w.registers
          d.run (below_two d.c d.o d.apart) is e)))

      -- a quiet core with no step lets the other one go
      pub ends : (i : ℕ) → me.0.core + i ≡ 3 → me.0.phase ≡ Quiet → me.0.stepping ≡ false
          → Allows (Ruled records runs stands key) slots id me i
          (λ n. either (eqb n (gate_word (held_gate me.0.held)))
          (gate_word (let_go (held_gate me.0.held))) n)
          (TellsExchange End Owning false
          (step slots i (gate_word (held_gate me.0.held))
          (gate_word (let_go (held_gate me.0.held))) none) me)
      ends i place is idle = at_other i (held_gate me.0.held)
          (let_go (held_gate me.0.held)) End Owning false place (λ e. e) (λ bad. absurd (cc bad))
          (λ s d e.
          let none = not_own_step me.0.stepping d.w.stepping (sum_one d.c d.o d.apart)
          d.pairing.step idle in
          subst (λ g. Steps (at_side s d d.lock d.gate d.gate' me.0.phase) d.c (Some End)
          (at_side s d d.lock d.gate g Owning)) (ap let_go e)
          (end_step d.c d.lock d.gate d.gate' me.0.phase d.w.phase me.0.registers d.w.registers
          d.run (below_two d.c d.o d.apart) is none (away d.gate' me.0.held e)))
