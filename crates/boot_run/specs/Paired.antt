-- A flash that is a pair of two applications, and what boots, confirmations and rejections leave
-- of it.
use Rattle.std.specs.Prelude.{◌≡◌, ◌⊎◌, ℕ, List, [], ◌∷◌, Option, Some, IfSome, Result, OnOk}
use Rattle.nor_device.specs.declared.nor.NorFault.{NorFault}
use Rattle.otadata.specs.Choice.{active_of}
use Rattle.partition_table.specs.declared.app.App.{App}
use Rattle.partition_table.specs.Layout.{Places}
use Rattle.boot_select.specs.Boots.{entries_in, images_in}
use Rattle.rollback.specs.declared.rewrite.Rewrite.{Rewrite}
use Rattle.rollback.specs.Rewrite.{restated, with_state}
use Rattle.rollback.specs.Boots.{IsChance}
use Rattle.rollback.specs.Pair.{IsPair, SettlesOneOf}
use Rattle.image_verify.specs.Held.{held}

-- what a pair is of: an application with its image, a target slot with its, and the sector of the
-- entry that tells which of them boots
pub record Pairing : Type 0 where
  pub sector : ℕ
  pub app : App
  pub image : List ℕ
  pub slot : ℕ
  pub target : List ℕ

-- the flash is this pair
abbrev pub IsPairIn : Places → List ℕ → Pairing → Type 0
IsPairIn layout flash pair =
    IsPair layout (images_in held layout flash) (entries_in layout flash) pair.sector pair.app
    pair.image pair.slot pair.target

-- the entry of this sector is the active one
abbrev pub IsActiveIn : Places → List ℕ → ℕ → Type 0
IsActiveIn layout flash sector =
    active_of (entries_in layout flash 0) (entries_in layout flash 1) ≡ Some sector

-- the flash is this pair, and its entry is the active one
pub record IsActivePair (layout : Places) (flash : List ℕ) (pair : Pairing) : Type 0 where
  pub is : IsPairIn layout flash pair
  pub active : IsActiveIn layout flash pair.sector

-- the rewrites are one alone, which gives the entry of this sector another state, and the entry that
-- is found there matches by chance
pub record IsFoundByChance (layout : Places) (flash : List ℕ) (writes : List Rewrite) (sector : ℕ)
    (left : List ℕ) : Type 0 where
  pub state : ℕ
  pub alone : writes ≡ restated state sector (entries_in layout flash sector) ∷ []
  pub chance : IsChance (entries_in layout flash sector)
      (with_state state (entries_in layout flash sector)) (entries_in layout left sector)

-- what is left of rewrites of the flash is this pair, or the entry that is found in its sector
-- matches by chance
abbrev pub KeepsPair : Places → List ℕ → List Rewrite → Pairing → List ℕ → Type 0
KeepsPair layout flash writes pair left =
    IsPairIn layout left pair ⊎ IsFoundByChance layout flash writes pair.sector left

-- an update may begin on the flash, from one of the two applications
abbrev pub IsSettledPair : Places → List ℕ → Pairing → Type 0
IsSettledPair layout flash pair =
    SettlesOneOf layout (images_in held layout flash) (entries_in layout flash) pair.app pair.image
    pair.slot pair.target

-- the entry of this sector is the active one, and waits to be confirmed
pub record IsWaiting (layout : Places) (flash : List ℕ) (sector : ℕ) : Type 0 where
  pub active : IsActiveIn layout flash sector
  pub waits : (entries_in layout flash sector).state ≡ 1

-- what a boot leaves, all of whose rewrites are made: an update may begin, or the entry of the pair
-- waits; where it waited before, an update may begin
pub record BootSettles (layout : Places) (flash : List ℕ) (pair : Pairing) (left : List ℕ)
    : Type 0 where
  pub first : IsSettledPair layout left pair ⊎ IsWaiting layout left pair.sector
  pub second : (entries_in layout flash pair.sector).state ≡ 1 → IsSettledPair layout left pair

-- what a confirmation leaves: an update may begin
abbrev pub ConfirmSettles : Places → List ℕ → Pairing → List ℕ → Type 0
ConfirmSettles layout flash pair left = IsSettledPair layout left pair

-- where the device tells its bytes and they are a pair of this kind, what it has now is left of the
-- rewrites as a pair; where there is an answer, and no refusal, it has ended so
abbrev pub KeepsPairs : {T : Type 0} → Places → (List ℕ → Pairing → Type 0)
    → (List ℕ → List Rewrite) → (List ℕ → Pairing → List ℕ → Type 0) → Option (List ℕ)
    → Option (List ℕ) → Result T NorFault → Type 0
KeepsPairs layout Is writes Ends old new answer =
    IfSome old (λ flash. (pair : Pairing) → Is flash pair
    → (left : List ℕ) × (new ≡ Some left) × KeepsPair layout flash (writes flash) pair left
    × OnOk answer (Ends flash pair left))
