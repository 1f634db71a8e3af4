-- A core that was just opened can work on a script, where its duty allows every step.
use Rattle.std.proofs.Common.{◌≡◌, ℕ, ◌<◌, ◌≤◌, ◌^◌, List, [], ◌∷◌, length, Option, Some, None, sym, subst, arith}
use Rattle.core_state.specs.declared.registers.Regs.{Regs}
use Rattle.atomic_table.specs.Seated.{TableId}
use Rattle.nor_device.specs.declared.step.Step.{Step}
use Rattle.partition_table.specs.declared.row.Row.{Row}
use Rattle.partition_table.specs.Rules.{FitsFlash}
use Rattle.core_script.specs.declared.action.Action.{Action}
use Rattle.bus_hub.specs.declared.did.Base.{Base}
use Rattle.bus_hub.specs.declared.did.Did.{Did}
use Rattle.cache_gate.specs.Own.{Own, OnBase}
use Rattle.flash_ops.specs.Asked.{GrantsAll, MayMakeAll}
use Rattle.duo_run.specs.Fresh.{IsFreshIn}
use Rattle.duo_run.specs.Room.{worker_room}
use Rattle.duo_run.specs.Worker.{worker_steps}
use Rattle.duo_run.specs.Works.{CanWork, FitsBase}

all_granted : {P : Type 0} (grants : P → Step → Type 0) (moved : P → Step → P)
    (may : (p : P) (step : Step) → grants p step) (p : P) (steps : List Step)
    → GrantsAll grants moved p steps
all_granted grants moved may p [] = tt
all_granted grants moved may p (step ∷ steps) =
    (may p step, all_granted grants moved may (moved p step) steps)

fits_base : {S K : Type 0} (rows : List Row) (base : Option (Base S K)) (size : ℕ)
    → FitsFlash size rows → size < 2 ^ 32 → OnBase base (λ b. length b.flash ≡ size)
    → OnBase base (FitsBase rows)
fits_base rows None size fits small there = absurd there
fits_base rows (Some b) size fits small there = record {
  fits = subst (λ (n : ℕ). FitsFlash n rows) (sym there) fits;
  small = subst (λ (n : ℕ). n < 2 ^ 32) (sym there) small;
}

module _ {S K P : Type 0} (part : K → ℕ → P) (grants : P → Step → Type 0)
    (moved : P → Step → P) where
  all_may : (may : (p : P) (step : Step) → grants p step) (base : Option (Base S K)) (c size : ℕ)
      (share : List Did) (steps : List Step) → OnBase base (λ b. length b.flash ≡ size)
      → MayMakeAll part grants moved base c share steps
  all_may may None c size share steps there = absurd there
  all_may may (Some b) c size share steps there = all_granted grants moved may _ steps

  pub can_fresh : (may : (p : P) (step : Step) → grants p step) (rows : List Row)
      (script : List Action) (words : TableId) (c size : ℕ) (o : Own (Base S K) Did)
      → IsFreshIn words c (worker_room script) size o → FitsFlash size rows → size < 2 ^ 32
      → CanWork part grants moved rows script o
  can_fresh may rows script words c size o fresh fits small = record {
    mask = subst (λ (regs : Regs). regs.mask ≤ 3) (sym fresh.regs) (omega arith);
    base = fits_base rows o.base size fits small fresh.size_is;
    room = fresh.room_is;
    may = all_may may o.base o.core size o.share (worker_steps rows script) fresh.size_is;
  }
