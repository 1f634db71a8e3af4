-- What stands of an update where another core changes addresses of its own meanwhile.
use Rattle.std.specs.Prelude.{◌≡◌, ℕ, ◌<◌, Bool, false, List, [], ◌∷◌, length, slice_index, Some}
use Rattle.nor_device.specs.declared.step.Step.{Step}
use Rattle.nor_device.specs.Flash.{after_steps}
use Rattle.nor_device.specs.Torn.{TornAt}
use Rattle.crash_images.specs.Agrees.{Covers}
use Rattle.partition_table.specs.declared.app.App.{App}
use Rattle.partition_table.specs.declared.row.Row.{Row}
use Rattle.partition_table.specs.Layout.{Places, row_for}

-- what may stand at an address: the old byte, or one that is torn by the first of these steps
abbrev pub TornByNext : List Step → ℕ → ℕ → ℕ → Type 0
TornByNext [] i old new = new ≡ old
TornByNext (step ∷ steps) i old new = TornAt step i old new

-- where another core may not write, the flash is the first one after the steps that are made, or
-- this torn by the next of the rest; `others` tells the addresses at which the other core may write
pub record StandsBeside (first : List ℕ) (made rest : List Step) (others : ℕ → Bool)
    (now : List ℕ) : Type 0 where
  pub same_length : length now ≡ length first
  pub byte : (i : ℕ) → i < length first → others i ≡ false
      → TornByNext rest i (slice_index (after_steps first made) i) (slice_index now i)

-- the addresses at which the other core may not write
abbrev pub IsSpared : (ℕ → Bool) → ℕ → Type 0
IsSpared others i = others i ≡ false

-- the other core may write neither to the table and the OTA data nor to an application's partition
pub record IsApart (layout : Places) (others : ℕ → Bool) : Type 0 where
  pub table : Covers (IsSpared others) 0x8000 0xC00
  pub otadata : Covers (IsSpared others) layout.otadata 0x2000
  pub apps : (app : App) (row : Row) → row_for layout app ≡ Some row
      → Covers (IsSpared others) row.offset row.size
