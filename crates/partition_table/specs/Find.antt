-- The row that has a label.
use Rattle.std.specs.Prelude.{ℕ, ◌-◌, Bool, List, ◌++◌, length, replicate, Option}
use Rattle.std.specs.Str.{bytes_eq}
use Rattle.partition_table.specs.declared.row.Row.{Row}
use Rattle.partition_table.specs.First.{first_place}

-- a label and zeros behind it, up to 16 bytes
abbrev pub padded_label : List ℕ → List ℕ
padded_label label = label ++ replicate (16 - length label) 0

-- whether a row's label is this text and zeros behind it
unfoldable pub has_label : List ℕ → Row → Bool
has_label label row = bytes_eq row.label (padded_label label)

-- the number of the first row with this label
unfoldable pub row_of_label : List ℕ → List Row → Option ℕ
row_of_label label rows = first_place (has_label label) 0 rows
