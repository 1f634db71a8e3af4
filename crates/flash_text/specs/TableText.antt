-- The lines of a table, and what is wrong with one or with its source, in words.
use Rattle.std.specs.Prelude.{ℕ, List, [], ◌∷◌, ◌++◌, ◌==◌, ◌&&◌, nat_le, map, length, if◌then◌else◌, codes, decimal}
use Rattle.pipe_ends.specs.Hex.{hex_text}
use Rattle.part_csv.specs.declared.refusal.CsvWhy.{CsvWhy}
use Rattle.part_csv.specs.declared.refusal.CsvWhy.TheVariants as why
use Rattle.partition_table.specs.declared.row.Row.{Row}
use Rattle.partition_table.specs.declared.bad.TableBad.{TableBad}
use Rattle.partition_table.specs.declared.bad.TableBad.TheVariants.{Magic, Md5, NoEnd, Align, Range, Overlap, TwoOf, NoOtadata, OtadataSize, OtadataFlags, NoFactory, SlotGap, AppHigh}

-- two numbers
abbrev pub pair_text : ℕ → ℕ → List ℕ
pair_text a b = decimal a ++ codes " " ++ decimal b

-- what is wrong with a table
unfoldable pub table_bad_text : TableBad → List ℕ
table_bad_text (Magic row) = codes "table magic row " ++ decimal row
table_bad_text (Md5 row) = codes "table md5 row " ++ decimal row
table_bad_text NoEnd = codes "table no end"
table_bad_text (Align row) = codes "table align row " ++ decimal row
table_bad_text (Range row) = codes "table range row " ++ decimal row
table_bad_text (Overlap a b) = codes "table overlap rows " ++ pair_text a b
table_bad_text (TwoOf a b) = codes "table two rows " ++ pair_text a b
table_bad_text NoOtadata = codes "table no otadata"
table_bad_text (OtadataSize size) = codes "table otadata size " ++ decimal size
table_bad_text (OtadataFlags flags) = codes "table otadata flags " ++ decimal flags
table_bad_text NoFactory = codes "table no factory"
table_bad_text (SlotGap slot) = codes "table slot gap " ++ decimal slot
table_bad_text (AppHigh row) = codes "table app high row " ++ decimal row

-- what is wrong with a record, in a word
abbrev pub csv_why_text : CsvWhy → List ℕ
csv_why_text why.Fields = codes "fields"
csv_why_text why.Name = codes "name"
csv_why_text why.Kind = codes "kind"
csv_why_text why.Subtype = codes "subtype"
csv_why_text why.Offset = codes "offset"
csv_why_text why.Size = codes "size"
csv_why_text why.Flag = codes "flag"
csv_why_text why.SameName = codes "samename"
csv_why_text why.TooManyRows = codes "toomanyrows"

-- what is wrong with the record of this number
unfoldable pub csv_text : ℕ → CsvWhy → List ℕ
csv_text number reason = codes "csv record " ++ decimal number ++ codes " " ++ csv_why_text reason

-- a byte as it is shown: a question mark where it is below the least one that is shown, or is no
-- character
abbrev pub glyph : ℕ → ℕ → ℕ
glyph least byte = if nat_le least byte && nat_le byte 126 then byte else 63

-- the bytes before the first zero
abbrev pub before_zero : List ℕ → List ℕ
before_zero [] = []
before_zero (byte ∷ bytes) = if byte == 0 then [] else byte ∷ before_zero bytes

-- a text, or a minus sign in place of an empty one
abbrev pub or_minus : List ℕ → List ℕ
or_minus [] = codes "-"
or_minus (byte ∷ bytes) = byte ∷ bytes

-- a text of a fixed length as it is shown, where this is the least byte that is shown
unfoldable pub shown_text : ℕ → List ℕ → List ℕ
shown_text least text = or_minus (map (glyph least) (before_zero text))

-- a number of so many hex digits
unfoldable pub hex_number : ℕ → ℕ → List ℕ
hex_number digits number = codes " 0x" ++ hex_text digits number

-- a partition's name, with a space as a question mark, and type
unfoldable pub row_name : Row → List ℕ
row_name row = shown_text 33 row.label ++ codes " " ++ decimal row.kind

-- its subtype, offset, size and flags
unfoldable pub row_numbers : Row → List ℕ
row_numbers row =
    hex_number 2 row.subtype ++ hex_number 8 row.offset ++ hex_number 8 row.size ++ hex_number 8 row.flags

-- the line of a partition
unfoldable pub row_line : Row → List ℕ
row_line row = row_name row ++ row_numbers row ++ codes "\n"

-- the lines of partitions
abbrev pub row_lines : List Row → List ℕ
row_lines [] = []
row_lines (row ∷ rows) = row_line row ++ row_lines rows

-- the line that tells how many there are
unfoldable pub rows_line : List Row → List ℕ
rows_line rows = codes "rows " ++ decimal (length rows) ++ codes "\n"
