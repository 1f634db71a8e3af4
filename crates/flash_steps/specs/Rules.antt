-- Which writes and erases of a partition are refused.
use Rattle.std.specs.Prelude.{◌≡◌, ◌≤◌, ℕ, ◌+◌, ◌/◌, ◌%◌, Bool, ◌&&◌, ◌||◌, not, ◌==◌, nat_le, List, slice_get, Option, Some, None, Result, Ok, Err, if◌then◌else◌}
use Rattle.std.specs.Option.{option_and_then}
use Rattle.partition_table.specs.declared.row.Row.{Row}
use Rattle.partition_table.specs.Find.{row_of_label}
use Rattle.flash_steps.specs.declared.refusal.PartNo.{PartNo}
use Rattle.flash_steps.specs.declared.refusal.PartNo.TheVariants.{NoLabel, Dangerous, ReadOnly, Encrypted, Unaligned, Range}

-- whether a partition has an application, or the OTA data
unfoldable pub is_dangerous : Row → Bool
is_dangerous row = (row.kind == 0) || ((row.kind == 1) && (row.subtype == 0))

-- whether a partition is flagged encrypted, by bit 0
unfoldable pub is_encrypted : Row → Bool
is_encrypted row = row.flags % 2 == 1

-- whether a partition is flagged readonly, by bit 1
unfoldable pub is_readonly : Row → Bool
is_readonly row = row.flags / 2 % 2 == 1

-- why a partition may not be changed at all
unfoldable pub row_barred : Row → Option PartNo
row_barred row =
    if is_dangerous row then Some Dangerous
    else (if is_readonly row then Some ReadOnly
    else (if is_encrypted row then Some Encrypted else None))

-- the first partition with this label
unfoldable pub row_named : List ℕ → List Row → Option Row
row_named label rows = option_and_then (λ n. slice_get rows n) (row_of_label label rows)

-- a row, unless there is a reason against it
abbrev pub unless : Option PartNo → Row → Result Row PartNo
unless None row = Ok row
unless (Some why) row = Err why

-- a row, if it may be changed
abbrev pub opened : Option Row → Result Row PartNo
opened None = Err NoLabel
opened (Some row) = unless (row_barred row) row

-- the partition with this label, if it may be changed
unfoldable pub open_row : List ℕ → List Row → Result Row PartNo
open_row label rows = opened (row_named label rows)

-- what follows from a row, if there is one
abbrev pub and_then : Result Row PartNo → (Row → Result Row PartNo) → Result Row PartNo
and_then (Ok row) next = next row
and_then (Err why) next = Err why

-- the row, if a range from an offset on ends inside it
abbrev pub ranged : ℕ → ℕ → Row → Result Row PartNo
ranged offset length row = if nat_le (offset + length) row.size then Ok row else Err Range

-- the partition that a write of so many bytes at an offset changes, or the first reason against it
unfoldable pub write_checked : List Row → List ℕ → ℕ → ℕ → Result Row PartNo
write_checked rows label offset length = and_then (open_row label rows) (ranged offset length)

-- the partition of which an erase changes so many bytes from an offset on, or the first reason
-- against it
unfoldable pub erase_checked : List Row → List ℕ → ℕ → ℕ → Result Row PartNo
erase_checked rows label offset len =
    and_then (open_row label rows) (λ row.
    if not (offset % 4096 == 0) || not (len % 4096 == 0) then Err Unaligned
    else ranged offset len row)

-- a row is the first with this label, may be changed, and has this range
pub record IsOpenFor (rows : List Row) (label : List ℕ) (offset length : ℕ) (row : Row) : Type 0 where
  pub named : row_named label rows ≡ Some row
  pub free : row_barred row ≡ None
  pub inside : offset + length ≤ row.size

-- a range of a partition lies behind the table and inside a flash of this size, in a partition that
-- begins at a sector
pub record IsPartOf (flash offset length : ℕ) (row : Row) : Type 0 where
  pub behind : 0x9000 ≤ row.offset
  pub inside : row.offset + offset + length ≤ flash
  pub sector : row.offset % 4096 ≡ 0
