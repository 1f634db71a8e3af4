-- The layout of a file that is to be a flash.
use Rattle.std.specs.Prelude.{ℕ, List, length, Result, Ok, Err, if◌then◌else◌}
use Rattle.nor_device.specs.FlashSize.{is_flash_size}
use Rattle.partition_table.specs.declared.bad.TableBad.{TableBad}
use Rattle.partition_table.specs.Layout.{Places, layout_in}
use Rattle.flash_text.specs.declared.refusal.Refusal.{Refusal}
use Rattle.flash_text.specs.declared.refusal.Refusal.TheVariants.{FlashSize, Table}

-- a refusal of the table as one of the command
abbrev pub layout_or_refusal : Result Places TableBad → Result Places Refusal
layout_or_refusal (Ok layout) = Ok layout
layout_or_refusal (Err why) = Err (Table why)

-- the layout of a flash, or the first reason why it has none: its size, then its table
unfoldable pub laid : List ℕ → Result Places Refusal
laid flash =
    if is_flash_size (length flash) then layout_or_refusal (layout_in flash)
    else Err (FlashSize (length flash))
