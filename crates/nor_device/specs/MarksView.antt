-- How the words of the marks show in a contract.
use Rattle.std.specs.Prelude.{◌≡◌, Bool, List}
use Rattle.nor_device.specs.declared.marks.Marks.TheInside.{Inside}
use Rattle.nor_device.specs.Marks.{flags_of, marked_count}

-- a flag for each sector
abbrev pub marks_of : Inside → List Bool
marks_of m = flags_of m.words

-- the count is that of the flags that are set
abbrev pub IsCounted : Inside → Type 0
IsCounted m = m.count ≡ marked_count (flags_of m.words)
