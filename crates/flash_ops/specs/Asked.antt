-- What the calls ask of a core: that its duty allows the steps, and that it can look at the probe.
use Rattle.std.specs.Prelude.{◌<◌, ◌+◌, ◌^◌, ℕ, List, [], ◌∷◌, length, Option, Some, None}
use Rattle.core_state.specs.declared.registers.Regs.{Regs}
use Rattle.nor_device.specs.declared.step.Step.{Step}
use Rattle.bus_hub.specs.declared.did.Base.{Base}
use Rattle.bus_hub.specs.declared.did.Did.{Did}
use Rattle.bus_hub.specs.Fetch.{IsFixed, IsServed}
use Rattle.bus_hub.specs.Shares.{made, moved_by}
use Rattle.cache_gate.specs.Own.{Own, OnBase, HasRoom, IsInside}
use Rattle.flash_ops.specs.Moves.{Move, makes, steps_of, entries_for, bytes_for}

module _ {P : Type 0} (grants : P → Step → Type 0) (moved : P → Step → P) where
  -- the part of a duty allows the steps, one after the other
  abbrev pub GrantsAll : P → List Step → Type 0
  GrantsAll p [] = Unit {0}
  GrantsAll p (step ∷ steps) = grants p step × GrantsAll (moved p step) steps

module _ {S K : Type 0} where
  -- the duty allows a core the steps, one after the other, by what the core has made
  abbrev pub MayMakeAll : {P : Type 0} → (K → ℕ → P) → (P → Step → Type 0) → (P → Step → P)
      → Option (Base S K) → ℕ → List Did → List Step → Type 0
  MayMakeAll part grants moved base c share steps =
      OnBase base (λ b. GrantsAll grants moved (moved_by moved (part b.duty c) (made share)) steps)

  -- the core has room for what the moves add
  abbrev pub HasRoomFor : Option (Base S K) → ℕ → List Did → List Move → Type 0
  HasRoomFor base c share moves = HasRoom base c share (entries_for moves) (bytes_for moves)

  -- where there is a probe, its 4 bytes lie in fixed pages and in the flash, and the mask serves them
  abbrev pub CanLook : Option (Base S K) → Regs → Option ℕ → Type 0
  CanLook base regs None = Unit {0}
  CanLook base regs (Some at) =
      OnBase base (λ b. IsFixed b.map (length b.flash) at 4) × IsServed regs.mask at

-- the core can make the moves: its duty allows the steps, it has room for what they add, and it can
-- look at the probe
pub record CanMakeMoves {S K P : Type 0} (part : K → ℕ → P) (grants : P → Step → Type 0)
    (moved : P → Step → P) (moves : List Move) (probe : Option ℕ) (o : Own (Base S K) Did)
    : Type 0 where
  pub may : MayMakeAll part grants moved o.base o.core o.share (steps_of moves)
  pub room : HasRoomFor o.base o.core o.share moves
  pub look : CanLook o.base o.regs probe

-- the core can make the steps in a range of the flash, without a look
pub record CanChange {S K P : Type 0} (part : K → ℕ → P) (grants : P → Step → Type 0)
    (moved : P → Step → P) (at len : ℕ) (steps : List Step) (o : Own (Base S K) Did)
    : Type 0 where
  pub inside : IsInside o.base (at + len)
  pub small : at + len < 2 ^ 32
  pub can : CanMakeMoves part grants moved (makes steps) None o
