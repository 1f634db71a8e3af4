-- What each call may exchange, by what its seat knows.
use Rattle.std.proofs.Common.{◌≡◌, ℕ, ◌+◌, ◌∙◌, ap, subst, sym, true, false, List, Option, eqb}
use mathlib.Core.Option.{none}
use prog.Atomic.{either}
use Rattle.std.specs.Prelude.{IsSome, IsNone}
use Rattle.core_state.specs.declared.registers.Record.{Record}
use Rattle.atomic_table.specs.Table.{step, Allows}
use Rattle.duo_machine.specs.declared.machine.Phase.TheVariants.{Resting, Running, Owning, Asking, Quiet, Parked}
use Rattle.duo_machine.specs.declared.events.Kind.TheVariants.{Start, Rest, Take, Give, Hold, Ask, Park, End, Leave}
use Rattle.duo_machine.specs.Machine.{let_go}
use Rattle.park_words.specs.declared.view.View.{View}
use Rattle.park_words.specs.Views.{gate_word, held_gate}
use Rattle.park_words.specs.Rule.{Ruled}
use Rattle.park_words.specs.Told.{MayExchange, TellsExchange}
use Rattle.park_words.proofs.Events.{takes_lock, gives_lock, starts, rests, parks, leaves, asks, holds, ends}

module _
    {S B D : Type 0}
    (records : S → ℕ → Record) (runs : S → Option ℕ) (stands : S → B → List D → List D → Type 0)
    (v : View B D)
  where
    pub may_take_lock : (to : ℕ) → v.core + 1 ≡ to → v.phase ≡ Running
        → MayExchange records runs stands Take Owning false 0 0 to v
    may_take_lock to at is =
        λ key slots id me one e. takes_lock records runs stands key slots id me one to
        (ap (λ v. v.core + 1) e ∙ at) (ap (λ v. v.phase) e ∙ is)

    pub may_give_lock : (from : ℕ) → v.core + 1 ≡ from → v.phase ≡ Owning → IsNone v.registers.saved
        → MayExchange records runs stands Give Running false 0 from 0 v
    may_give_lock from at is unsaved =
        λ key slots id me one e. gives_lock records runs stands key slots id me one from
        (ap (λ v. v.core + 1) e ∙ at) (ap (λ v. v.phase) e ∙ is)
        (subst (λ v. IsNone v.registers.saved) (sym e) unsaved)

    pub may_start : (i : ℕ) → v.core + 2 ≡ i → v.phase ≡ Resting
        → MayExchange records runs stands Start Running false i 0 1 v
    may_start i at is = λ key slots id me one e. starts records runs stands key slots id me one i
        (ap (λ v. v.core + 2) e ∙ at) (ap (λ v. v.phase) e ∙ is)

    pub may_rest : (i : ℕ) → v.core + 2 ≡ i → v.phase ≡ Running → IsSome v.registers.saved
        → MayExchange records runs stands Rest Resting false i 1 0 v
    may_rest i at is saved =
        λ key slots id me one e. rests records runs stands key slots id me one i
        (ap (λ v. v.core + 2) e ∙ at) (ap (λ v. v.phase) e ∙ is)
        (subst (λ v. IsSome v.registers.saved) (sym e) saved)

    pub may_park : (i : ℕ) → v.core + 2 ≡ i → v.phase ≡ Running → IsSome v.registers.saved
        → MayExchange records runs stands Park Parked false i 2 3 v
    may_park i at is saved =
        λ key slots id me one e. parks records runs stands key slots id me one i
        (ap (λ v. v.core + 2) e ∙ at) (ap (λ v. v.phase) e ∙ is)
        (subst (λ v. IsSome v.registers.saved) (sym e) saved)

    pub may_leave : (i : ℕ) → v.core + 2 ≡ i → v.phase ≡ Parked
        → MayExchange records runs stands Leave Running false i 4 1 v
    may_leave i at is = λ key slots id me one e. leaves records runs stands key slots id me one i
        (ap (λ v. v.core + 2) e ∙ at) (ap (λ v. v.phase) e ∙ is)

    pub may_ask : (i : ℕ) → v.core + i ≡ 3 → v.phase ≡ Owning → IsSome v.registers.saved
        → MayExchange records runs stands Ask Asking false i 1 2 v
    may_ask i at is saved =
        λ key slots id me one e. asks records runs stands key slots id me one i
        (ap (λ v. v.core + i) e ∙ at) (ap (λ v. v.phase) e ∙ is)
        (subst (λ v. IsSome v.registers.saved) (sym e) saved)

    pub may_hold : (i : ℕ) → v.core + i ≡ 3 → v.phase ≡ Owning → IsSome v.registers.saved
        → MayExchange records runs stands Hold Quiet true i 0 5 v
    may_hold i at is saved =
        λ key slots id me one e. holds records runs stands key slots id me one i
        (ap (λ v. v.core + i) e ∙ at) (ap (λ v. v.phase) e ∙ is)
        (subst (λ v. IsSome v.registers.saved) (sym e) saved)

    pub may_end : (i from to : ℕ) → v.core + i ≡ 3 → v.phase ≡ Quiet → v.stepping ≡ false
        → gate_word (held_gate v.held) ≡ from → gate_word (let_go (held_gate v.held)) ≡ to
        → MayExchange records runs stands End Owning false i from to v
    may_end i from to at is idle is_from is_to =
        subst (λ (z : ℕ × ℕ). MayExchange records runs stands End Owning false i z.0 z.1 v)
        (λ k. (is_from k, is_to k))
        (λ key slots id me one e. subst
        (λ u. Allows (Ruled records runs stands key) slots id me i
        (λ n. either (eqb n (gate_word (held_gate u.held)))
        (gate_word (let_go (held_gate u.held))) n)
        (TellsExchange End Owning false
        (step slots i (gate_word (held_gate u.held))
        (gate_word (let_go (held_gate u.held))) none) me)) e
        (ends records runs stands key slots id me one i (ap (λ u. u.core + i) e ∙ at)
        (ap (λ u. u.phase) e ∙ is) (ap (λ u. u.stepping) e ∙ idle)))
