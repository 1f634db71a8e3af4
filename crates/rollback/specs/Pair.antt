-- Two applications of which one boots, whatever becomes of the entry of one sector: what an update
-- leaves, and what boots, confirmations and rejections keep.
use Rattle.std.specs.Prelude.{◌≡◌, ◌≢◌, ◌<◌, ◌≤◌, ◌⊎◌, ◌-◌, ℕ, List, [], ◌∷◌, length, Option, Some}
use Rattle.otadata.specs.declared.entry.Entry.{Entry}
use Rattle.otadata.specs.Choice.{IsValid, Matches, active_of, slot_named}
use Rattle.partition_table.specs.declared.app.App.{App}
use Rattle.partition_table.specs.declared.app.App.TheVariants.{Ota, Factory, Test}
use Rattle.partition_table.specs.Layout.{Places}
use Rattle.boot_select.specs.Boots.{Images}
use Rattle.rollback.specs.Rewrite.{restated}
use Rattle.rollback.specs.Boot.{boot_writes}
use Rattle.rollback.specs.Boots.{IsSettled}

-- the other one of two sectors
abbrev pub other_of : ℕ → ℕ
other_of sector = 1 - sector

-- the entry counts, names this slot, and a boot leaves it as it is
pub record KeepsSlot (layout : Places) (slot : ℕ) (entry : Entry) : Type 0 where
  pub valid : IsValid entry
  pub names : slot_named entry.seq (length layout.slots) ≡ slot
  pub not_new : entry.state ≢ 0
  pub not_pending : entry.state ≢ 1

-- the entry of the second sector does not count, and a boot leaves it as it is
pub record KeepsFactory (sector : ℕ) (entry : Entry) : Type 0 where
  pub invalid : ¬ IsValid entry
  pub not_pending : entry.state ≢ 1
  pub first : sector ≡ 0

-- beside this sector, the entry of the other one goes on naming the application: an entry for its
-- slot, or for factory none that counts
abbrev pub Keeps : Places → App → ℕ → Entry → Type 0
Keeps layout (Ota slot) sector entry = KeepsSlot layout slot entry
Keeps layout Factory sector entry = KeepsFactory sector entry
Keeps layout Test sector entry = ⊥

-- the entry beside another one can't make anything boot but an application, or what its target slot
-- holds
pub data IsHarmless (layout : Places) (images : Images) (app : App) (slot : ℕ) (target : List ℕ)
    (other entry : Entry) : Type 0 where
  -- it does not match
  unmatched : ¬ Matches entry → IsHarmless layout images app slot target other entry
  -- it is INVALID
  rejected : entry.state ≡ 3 → IsHarmless layout images app slot target other entry
  -- it is ABORTED
  aborted : entry.state ≡ 4 → IsHarmless layout images app slot target other entry
  -- the other one counts and is not below
  below : IsValid other → entry.seq ≤ other.seq
      → IsHarmless layout images app slot target other entry
  -- it names the application
  names_running : app ≡ Ota (slot_named entry.seq (length layout.slots))
      → IsHarmless layout images app slot target other entry
  -- it names the target slot, which holds the target's image
  names_target : slot_named entry.seq (length layout.slots) ≡ slot → images (Ota slot) ≡ Some target
      → IsHarmless layout images app slot target other entry

-- one of two boots: the application with its image, or what the target slot of an update holds
pub record IsPair (layout : Places) (images : Images) (entries : ℕ → Entry) (sector : ℕ) (app : App)
    (image : List ℕ) (slot : ℕ) (target : List ℕ) : Type 0 where
  pub two : sector < 2
  pub holds : images app ≡ Some image
  pub apart : app ≢ Ota slot
  pub keeps : Keeps layout app sector (entries (other_of sector))
  pub harmless : IsHarmless layout images app slot target (entries (other_of sector))
      (entries sector)

-- the application boots, or what the target slot holds does
abbrev pub BootsOneOf : App → List ℕ → ℕ → List ℕ → Option (App × List ℕ) → Type 0
BootsOneOf app image slot target booted =
    (booted ≡ Some (app, image)) ⊎ (booted ≡ Some (Ota slot, target))

-- a boot rewrites nothing, or the entry of this sector alone
pub data RewritesOnly (entries : ℕ → Entry) (sector : ℕ) : Type 0 where
  -- it rewrites nothing
  is_quiet : boot_writes entries ≡ [] → RewritesOnly entries sector
  -- it gives up the application of the entry, which waits to be confirmed
  aborts_it : (entries sector).state ≡ 1
      → boot_writes entries ≡ restated 4 sector (entries sector) ∷ []
      → RewritesOnly entries sector
  -- it lets the entry wait, which is active and new
  begins_it : (entries sector).state ≡ 0 → active_of (entries 0) (entries 1) ≡ Some sector
      → boot_writes entries ≡ restated 1 sector (entries sector) ∷ [] → RewritesOnly entries sector

-- an update may begin, from the application or from what the target slot holds
abbrev pub SettlesOneOf : Places → Images → (ℕ → Entry) → App → List ℕ → ℕ → List ℕ → Type 0
SettlesOneOf layout images entries app image slot target =
    IsSettled layout images entries app image ⊎ IsSettled layout images entries (Ota slot) target
