-- The steps of a write and of an erase of a partition, and the addresses that they may change.
use Rattle.std.specs.Prelude.{◌≡◌, ◌≤◌, ◌<◌, ℕ, ◌+◌, Bool, ◌&&◌, nat_le, nat_lt, List, [], length, None, Result, Ok, Err}
use Rattle.std.specs.List.{Contains, list_any}
use Rattle.std.specs.Option.{is_none}
use Rattle.nor_device.specs.declared.step.Step.{Step}
use Rattle.partition_table.specs.declared.row.Row.{Row}
use Rattle.flash_steps.specs.declared.refusal.PartNo.{PartNo}
use Rattle.flash_steps.specs.Rules.{erase_checked, row_barred, write_checked}
use Rattle.flash_steps.specs.Steps.{LiesIn, erase_steps, write_steps}

-- the steps in a partition, and none where it is refused
abbrev pub steps_in : Result Row PartNo → (Row → List Step) → List Step
steps_in (Ok row) steps = steps row
steps_in (Err why) steps = []

-- the steps of a write of bytes at an offset of the partition with this label
unfoldable pub part_write_steps : List Row → List ℕ → ℕ → List ℕ → List Step
part_write_steps rows label offset bytes =
    steps_in (write_checked rows label offset (length bytes))
    (λ row. write_steps (row.offset + offset) bytes)

-- the steps of an erase of so many bytes from an offset of the partition with this label on
unfoldable pub part_erase_steps : List Row → List ℕ → ℕ → ℕ → List Step
part_erase_steps rows label offset len =
    steps_in (erase_checked rows label offset len) (λ row. erase_steps (row.offset + offset) len)

-- a step lies in a partition
abbrev pub LiesInPart : Row → Step → Type 0
LiesInPart row step = LiesIn row.offset (row.offset + row.size) step

-- a step lies in a partition of the table that may be changed
pub record LiesInOpenPart (rows : List Row) (step : Step) : Type 0 where
  pub row : Row
  pub among : Contains rows row
  pub free : row_barred row ≡ None
  pub inside : LiesInPart row step

-- whether an address lies in a partition
unfoldable pub has_address : ℕ → Row → Bool
has_address at row = nat_le row.offset at && nat_lt at (row.offset + row.size)

-- whether an address lies in a partition that may be changed
abbrev pub is_open_at : ℕ → Row → Bool
is_open_at at row = is_none (row_barred row) && has_address at row

-- the addresses of the partitions that may be changed: those that are neither an application's nor
-- the OTA data, and neither readonly nor encrypted
unfoldable pub open_addresses : List Row → ℕ → Bool
open_addresses rows at = list_any (is_open_at at) rows

-- an address lies in a partition of the table that may be changed
pub record IsOpenAddress (rows : List Row) (at : ℕ) : Type 0 where
  pub row : Row
  pub among : Contains rows row
  pub free : row_barred row ≡ None
  pub from : row.offset ≤ at
  pub to : at < row.offset + row.size
