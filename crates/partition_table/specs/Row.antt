-- A row of the partition table and its 32 bytes.
use Rattle.std.specs.Prelude.{◌≡◌, ◌<◌, ◌^◌, ℕ, Bool, List, [], ◌∷◌, ◌++◌, length, take, drop, slice_index, ◌==◌, ◌&&◌}
use Rattle.byteorder.specs.Endian.{little_number, little_bytes}
use Rattle.partition_table.specs.declared.row.Row.{Row}

-- whether bytes begin with the mark of a partition
unfoldable pub is_partition : List ℕ → Bool
is_partition bytes = (slice_index bytes 0 == 0xAA) && (slice_index bytes 1 == 0x50)

-- the row that the first 32 bytes are, whatever their mark
unfoldable pub row_of : List ℕ → Row
row_of bytes = record {
  kind = slice_index bytes 2;
  subtype = slice_index bytes 3;
  offset = little_number 4 (drop 4 bytes);
  size = little_number 4 (drop 8 bytes);
  label = take 16 (drop 12 bytes);
  flags = little_number 4 (drop 28 bytes);
}

-- the 32 bytes of a row
unfoldable pub row_text : Row → List ℕ
row_text row =
    (0xAA ∷ 0x50 ∷ row.kind ∷ row.subtype ∷ []) ++ little_bytes 4 row.offset
    ++ little_bytes 4 row.size ++ row.label ++ little_bytes 4 row.flags

-- the bytes of rows, one after the other
abbrev pub rows_text : List Row → List ℕ
rows_text [] = []
rows_text (row ∷ rows) = row_text row ++ rows_text rows

-- each field has the size that it has in the bytes
pub record IsSized (row : Row) : Type 0 where
  pub kind : row.kind < 256
  pub subtype : row.subtype < 256
  pub offset : row.offset < 2 ^ 32
  pub size : row.size < 2 ^ 32
  pub label : length row.label ≡ 16
  pub flags : row.flags < 2 ^ 32
