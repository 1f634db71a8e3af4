-- Each event as a step of the machine of two cores, the core of the event named first.
use Rattle.std.proofs.Common.{◌≡◌, ◌≢◌, ℕ, zero, suc, ◌+◌, ◌<◌, ◌≤◌, ◌⊎◌, inl, inr, sym, subst, refl, Option, Some, None, arith}
use Rattle.std.specs.Prelude.{IsSome, IsNone}
use Rattle.std.specs.Int.{IsBitSet}
use Rattle.core_state.specs.declared.registers.Regs.{Regs}
use Rattle.core_state.specs.declared.registers.Record.{Record}
use Rattle.core_state.specs.Registers.{saved_and_masked, restored}
use Rattle.duo_machine.specs.declared.machine.Gate.{Gate}
use Rattle.duo_machine.specs.declared.machine.Gate.TheVariants.{Rest as AtRest, Run, Asked, Parked as AtParked, Freed, Held}
use Rattle.duo_machine.specs.declared.machine.Phase.{Phase}
use Rattle.duo_machine.specs.declared.machine.Phase.TheVariants.{Resting, Running, Owning, Asking, Quiet, Parked}
use Rattle.duo_machine.specs.declared.machine.Machine.{Machine}
use Rattle.duo_machine.specs.declared.events.Kind.{Kind}
use Rattle.duo_machine.specs.declared.events.Kind.TheVariants.{Start, Rest, Take, Give, Save, Back, Hold, Ask, Park, See, Begin, Done, End, Leave, Set, Fetch}
use Rattle.duo_machine.specs.Machine.{KeepsAway, let_go}
use Rattle.duo_machine.specs.Table.{Allows, changed, IsAwake, bit_of}
use Rattle.park_words.specs.Story.{machine_of}

-- the machine makes this event of the core, or none
abbrev pub Steps : Machine → ℕ → Option Kind → Machine → Type 0
Steps m c None n = n ≡ m
Steps m c (Some kind) n = Allows m c kind × (n ≡ changed m c kind)

-- the machine of two cores, the first named being this one
abbrev pub machine_by :
    ℕ → ℕ → Gate → Gate → Phase → Phase → Record → Record → Option ℕ → Machine
machine_by zero lock g g' p p' r r' run = machine_of lock g g' p p' r r' run
machine_by (suc c) lock g g' p p' r r' run = machine_of lock g' g p' p r' r run

-- the two are core 0 and core 1
abbrev pub Apart : ℕ → ℕ → Type 0
Apart c o = ((c ≡ 0) × (o ≡ 1)) ⊎ ((c ≡ 1) × (o ≡ 0))

-- what holds of 0 and 1, and of 1 and 0, holds of the two cores
pub by_two : (P : ℕ → ℕ → Type 0) (c o : ℕ) → Apart c o → P 0 1 → P 1 0 → P c o
by_two P c o (inl e) a b =
    subst (λ (z : ℕ × ℕ). P z.0 z.1) (λ k. (sym e.0 k, sym e.1 k)) a
by_two P c o (inr e) a b =
    subst (λ (z : ℕ × ℕ). P z.0 z.1) (λ k. (sym e.0 k, sym e.1 k)) b

pub sum_one : (c o : ℕ) → Apart c o → c + o ≡ 1
sum_one c o (inl e) = let a = e.0 in let b = e.1 in omega arith
sum_one c o (inr e) = let a = e.0 in let b = e.1 in omega arith

pub below_two : (c o : ℕ) → Apart c o → c < 2
below_two c o (inl e) = let a = e.0 in omega arith
below_two c o (inr e) = let a = e.0 in omega arith

-- what holds of core 0 and of core 1 holds of each core
pub by_core : (P : ℕ → Type 0) (c : ℕ) → c < 2 → P 0 → P 1 → P c
by_core P zero small a b = a
by_core P (suc zero) small a b = b
by_core P (suc (suc c)) small a b = absurd (omega arith)

module _ (c lock : ℕ) (g g' : Gate) (p p' : Phase) (r r' : Record) (run : Option ℕ)
    (small : c < 2) where
  pub start_step : p ≡ Resting → g ≡ AtRest
      → Steps (machine_by c lock g g' p p' r r' run) c (Some Start)
      (machine_by c lock Run g' Running p' r r' run)
  start_step a b = by_core
      (λ c. Steps (machine_by c lock g g' p p' r r' run) c (Some Start)
      (machine_by c lock Run g' Running p' r r' run)) c small ((a, b), refl) ((a, b), refl)

  pub rest_step : p ≡ Running → IsSome r.saved → g ≡ Run
      → Steps (machine_by c lock g g' p p' r r' run) c (Some Rest)
      (machine_by c lock AtRest g' Resting p' r r' run)
  rest_step a b d = by_core
      (λ c. Steps (machine_by c lock g g' p p' r r' run) c (Some Rest)
      (machine_by c lock AtRest g' Resting p' r r' run)) c small ((a, b, d), refl) ((a, b, d), refl)

  pub park_step : p ≡ Running → IsSome r.saved → g ≡ Asked
      → Steps (machine_by c lock g g' p p' r r' run) c (Some Park)
      (machine_by c lock AtParked g' Parked p' r r' run)
  park_step a b d = by_core
      (λ c. Steps (machine_by c lock g g' p p' r r' run) c (Some Park)
      (machine_by c lock AtParked g' Parked p' r r' run)) c small ((a, b, d), refl)
      ((a, b, d), refl)

  pub leave_step : p ≡ Parked → g ≡ Freed
      → Steps (machine_by c lock g g' p p' r r' run) c (Some Leave)
      (machine_by c lock Run g' Running p' r r' run)
  leave_step a b = by_core
      (λ c. Steps (machine_by c lock g g' p p' r r' run) c (Some Leave)
      (machine_by c lock Run g' Running p' r r' run)) c small ((a, b), refl) ((a, b), refl)

  pub take_step : p ≡ Running → lock ≡ 0
      → Steps (machine_by c lock g g' p p' r r' run) c (Some Take)
      (machine_by c (c + 1) g g' Owning p' r r' run)
  take_step a b = by_core
      (λ c. Steps (machine_by c lock g g' p p' r r' run) c (Some Take)
      (machine_by c (c + 1) g g' Owning p' r r' run)) c small ((a, b), refl) ((a, b), refl)

  pub give_step : p ≡ Owning → IsNone r.saved → lock ≡ c + 1
      → Steps (machine_by c lock g g' p p' r r' run) c (Some Give)
      (machine_by c 0 g g' Running p' r r' run)
  give_step a b = by_core
      (λ c. lock ≡ c + 1 → Steps (machine_by c lock g g' p p' r r' run) c (Some Give)
      (machine_by c 0 g g' Running p' r r' run)) c small (λ d. ((a, b, d), refl))
      (λ d. ((a, b, d), refl))

  pub ask_step : p ≡ Owning → IsSome r.saved → g' ≡ Run
      → Steps (machine_by c lock g g' p p' r r' run) c (Some Ask)
      (machine_by c lock g Asked Asking p' r r' run)
  ask_step a b d = by_core
      (λ c. Steps (machine_by c lock g g' p p' r r' run) c (Some Ask)
      (machine_by c lock g Asked Asking p' r r' run)) c small ((a, b, d), refl) ((a, b, d), refl)

  pub hold_step : p ≡ Owning → IsSome r.saved → g' ≡ AtRest
      → Steps (machine_by c lock g g' p p' r r' run) c (Some Hold)
      (machine_by c lock g Held Quiet p' r r' run)
  hold_step a b d = by_core
      (λ c. Steps (machine_by c lock g g' p p' r r' run) c (Some Hold)
      (machine_by c lock g Held Quiet p' r r' run)) c small ((a, b, d), refl) ((a, b, d), refl)

  pub see_step : p ≡ Asking → g' ≡ AtParked
      → Steps (machine_by c lock g g' p p' r r' run) c (Some See)
      (machine_by c lock g g' Quiet p' r r' run)
  see_step a b = by_core
      (λ c. Steps (machine_by c lock g g' p p' r r' run) c (Some See)
      (machine_by c lock g g' Quiet p' r r' run)) c small ((a, b), refl) ((a, b), refl)

  pub end_step : p ≡ Quiet → run ≢ Some c → KeepsAway g'
      → Steps (machine_by c lock g g' p p' r r' run) c (Some End)
      (machine_by c lock g (let_go g') Owning p' r r' run)
  end_step a b d = by_core
      (λ c. run ≢ Some c → Steps (machine_by c lock g g' p p' r r' run) c (Some End)
      (machine_by c lock g (let_go g') Owning p' r r' run)) c small (λ b. ((a, b, d), refl))
      (λ b. ((a, b, d), refl)) b

  pub no_step : Steps (machine_by c lock g g' p p' r r' run) c None
      (machine_by c lock g g' p p' r r' run)
  no_step = refl

  pub save_step : IsAwake p → IsNone r.saved
      → Steps (machine_by c lock g g' p p' r r' run) c (Some Save)
      (machine_by c lock g g' p p' (saved_and_masked r) r' run)
  save_step a b = by_core
      (λ c. Steps (machine_by c lock g g' p p' r r' run) c (Some Save)
      (machine_by c lock g g' p p' (saved_and_masked r) r' run)) c small ((a, b), refl)
      ((a, b), refl)

  pub back_step : IsAwake p → IsSome r.saved
      → Steps (machine_by c lock g g' p p' r r' run) c (Some Back)
      (machine_by c lock g g' p p' (restored r) r' run)
  back_step a b = by_core
      (λ c. Steps (machine_by c lock g g' p p' r r' run) c (Some Back)
      (machine_by c lock g g' p p' (restored r) r' run)) c small ((a, b), refl) ((a, b), refl)

  pub set_step : (wanted : Regs) → p ≡ Running → IsNone r.saved → wanted.mask ≤ 3
      → Steps (machine_by c lock g g' p p' r r' run) c (Some (Set wanted))
      (machine_by c lock g g' p p' (record r { regs = wanted }) r' run)
  set_step wanted a b d =
      by_core (λ c. Steps (machine_by c lock g g' p p' r r' run) c (Some (Set wanted))
      (machine_by c lock g g' p p' (record r { regs = wanted }) r' run)) c small ((a, b, d), refl)
      ((a, b, d), refl)

  pub fetch_step : (space : _) → p ≡ Running → IsBitSet r.regs.mask (bit_of space)
      → Steps (machine_by c lock g g' p p' r r' run) c (Some (Fetch space))
      (machine_by c lock g g' p p' r r' run)
  fetch_step space a b =
      by_core (λ c. Steps (machine_by c lock g g' p p' r r' run) c (Some (Fetch space))
      (machine_by c lock g g' p p' r r' run)) c small ((a, b), refl) ((a, b), refl)

  pub begin_step : p ≡ Quiet → run ≢ Some c
      → Steps (machine_by c lock g g' p p' r r' run) c (Some Begin)
      (machine_by c lock g g' p p' r r' (Some c))
  begin_step a b = by_core
      (λ c. run ≢ Some c → Steps (machine_by c lock g g' p p' r r' run) c (Some Begin)
      (machine_by c lock g g' p p' r r' (Some c))) c small (λ b. ((a, b), refl))
      (λ b. ((a, b), refl)) b

  pub done_step : p ≡ Quiet → run ≡ Some c
      → Steps (machine_by c lock g g' p p' r r' run) c (Some Done)
      (machine_by c lock g g' p p' r r' None)
  done_step a b = by_core
      (λ c. run ≡ Some c → Steps (machine_by c lock g g' p p' r r' run) c (Some Done)
      (machine_by c lock g g' p p' r r' None)) c small (λ b. ((a, b), refl)) (λ b. ((a, b), refl)) b
