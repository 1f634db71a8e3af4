-- Bytes of a flash that are copied where they may have changed.
use Rattle.std.specs.Prelude.{◌≡◌, ℕ, ◌+◌, ◌<◌, ◌≤◌, true, false, List, ◌++◌, length, drop, take, slice_index}
use Rattle.crash_images.specs.Agrees.{IsBeside}
use Rattle.partition_table.specs.declared.row.Row.{Row}
use Rattle.flash_steps.specs.Parts.{is_open_at}

-- a list with so many bytes of the flash from an address on
abbrev pub pasted : List ℕ → ℕ → ℕ → List ℕ → List ℕ
pasted flash start len old =
    take start old ++ take len (drop start flash) ++ drop (start + len) old

-- the bytes of this range are those of the flash, and all others are as they were
pub record IsCopied (flash : List ℕ) (start end : ℕ) (old new : List ℕ) : Type 0 where
  pub size : length new ≡ length old
  pub inside : (i : ℕ) → i < length old → start ≤ i → i < end
      → slice_index new i ≡ slice_index flash i
  pub beside : (i : ℕ) → i < length old → IsBeside start end i
      → slice_index new i ≡ slice_index old i

-- so are those of a partition, where it may be written to
pub record IsRestored (flash : List ℕ) (row : Row) (old new : List ℕ) : Type 0 where
  pub size : length new ≡ length old
  pub inside : (i : ℕ) → i < length old → is_open_at i row ≡ true
      → slice_index new i ≡ slice_index flash i
  pub beside : (i : ℕ) → i < length old → is_open_at i row ≡ false
      → slice_index new i ≡ slice_index old i
