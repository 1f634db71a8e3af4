-- What a loss of power leaves of rewrites of entries, in what then boots.
use Rattle.std.specs.Prelude.{◌≡◌, ◌≢◌, ◌⊎◌, ◌<◌, ◌^◌, ℕ, List, [], ◌∷◌, Option, Some, None, IfSome}
use Rattle.nor_device.specs.Flash.{after_steps}
use Rattle.otadata.specs.declared.entry.Entry.{Entry}
use Rattle.partition_table.specs.Layout.{Places}
use Rattle.boot_select.specs.Boots.{entries_in, images_in}
use Rattle.rollback.specs.declared.rewrite.Rewrite.{Rewrite}
use Rattle.rollback.specs.Rewrite.{restated}
use Rattle.rollback.specs.Boots.{boots_in, BootsByVerdict, IsChance}
use Rattle.image_verify.specs.Held.{held}
use Rattle.boot_run.specs.Rewriting.{rewrite}

-- the rewrite gives the entry of its sector another state, which four bytes hold
pub record IsRestated (entries : ℕ → Entry) (write : Rewrite) : Type 0 where
  pub two : write.sector < 2
  pub state : ℕ
  pub fits : state < 2 ^ 32
  pub is : write ≡ restated state write.sector (entries write.sector)

-- of what is left of a flash in a rewrite boots what boots where the entry of the sector is VALID,
-- or is INVALID; or the entry that is found there matches by chance
abbrev pub LeavesVerdict : Places → List ℕ → Rewrite → List ℕ → Type 0
LeavesVerdict layout flash write left =
    IsChance (entries_in layout flash write.sector) write.entry
    (entries_in layout left write.sector)
    ⊎ BootsByVerdict layout (images_in held layout flash) (entries_in layout flash) write.sector
    (boots_in held layout left)

-- so it is of one of these rewrites, each of the flash that those before it leave; or they are all
-- made
abbrev pub LeavesVerdicts : Places → List ℕ → List Rewrite → List ℕ → Type 0
LeavesVerdicts layout flash [] left = left ≡ flash
LeavesVerdicts layout flash (write ∷ writes) left =
    LeavesVerdict layout flash write left
    ⊎ LeavesVerdicts layout (after_steps flash (rewrite layout.otadata write)) writes left

-- where the device tells its bytes, it still tells them, and they are such a flash
abbrev pub IsLeftByVerdicts : Places → (List ℕ → List Rewrite) → Option (List ℕ)
    → Option (List ℕ) → Type 0
IsLeftByVerdicts layout writes old new =
    IfSome old (λ flash. (left : List ℕ) × (new ≡ Some left)
    × LeavesVerdicts layout flash (writes flash) left)

-- where the device tells its bytes, an application boots of what it has now, if one did of what it
-- had
abbrev pub StillBoots : Places → Option (List ℕ) → Option (List ℕ) → Type 0
StillBoots layout old new =
    IfSome old (λ flash. boots_in held layout flash ≢ None
    → (left : List ℕ) × (new ≡ Some left) × (boots_in held layout left ≢ None))
