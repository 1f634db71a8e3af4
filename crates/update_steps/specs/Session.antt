-- When an update begins, and what boots of what a loss of power leaves of it.
use Rattle.std.specs.Prelude.{◌≡◌, ◌⊎◌, ◌<◌, ◌≤◌, ℕ, All, List, length, Some}
use Rattle.partition_table.specs.declared.app.App.TheVariants.{Ota}
use Rattle.partition_table.specs.Layout.{IsPlaced, Places}
use Rattle.otadata.specs.Entry.{IsStored}
use Rattle.boot_select.specs.Boots.{entries_in, images_in}
use Rattle.rollback.specs.Boots.{IsChance, boots_in}
use Rattle.rollback.specs.Pair.{IsPair}
use Rattle.image_layout.specs.Whole.{Whole}
use Rattle.image_verify.specs.Held.{held}
use Rattle.boot_run.specs.declared.aims.Aim.{Aim}
use Rattle.boot_run.specs.Aim.{Begins}

-- an update begins on this flash, by its layout: it may begin, the application that runs has the
-- old image, and the aim is for the new one; the next entry is one that 32 bytes hold
pub record IsOpening (layout : Places) (flash : List ℕ) (aim : Aim) (old new : List ℕ)
    : Type 0 where
  pub placed : IsPlaced layout (length flash)
  pub few : length layout.slots ≤ 16
  pub begins : Begins layout (images_in held layout flash) (entries_in layout flash) aim
  pub old_is : begins.image ≡ old
  pub stored : IsStored aim.next.entry
  pub bytes : All (λ b. b < 256) new
  pub length_is : length new ≡ aim.length

-- the entry that is found in the sector of the next entry matches by chance, seen from the opening
abbrev pub MatchesByChance : Places → List ℕ → Aim → List ℕ → Type 0
MatchesByChance layout flash aim left =
    IsChance (entries_in layout flash aim.next.sector) aim.next.entry
    (entries_in layout left aim.next.sector)

-- what boots is the old application with its image; or, where the new image is whole within its
-- slot, the new one with its, or the entry matches by chance
abbrev pub BootsOldOrNew : Places → List ℕ → Aim → ℕ → List ℕ → List ℕ → List ℕ → Type 0
BootsOldOrNew layout flash aim size old new left =
    (boots_in held layout left ≡ Some (aim.running, old))
    ⊎ (Whole new size × ((boots_in held layout left ≡ Some (Ota aim.slot, new))
    ⊎ MatchesByChance layout flash aim left))

-- the flash is a pair of the old application and the new one
abbrev pub LeavesPair : Places → Aim → List ℕ → List ℕ → List ℕ → Type 0
LeavesPair layout aim old new left =
    IsPair layout (images_in held layout left) (entries_in layout left) aim.next.sector
    aim.running old aim.slot new
