-- What the command `flash-make TABLE APP SIZE OUT` comes to.
use Rattle.std.specs.Prelude.{ℕ, ◌+◌, List, [], ◌∷◌, ◌++◌, length, take, drop, replicate, Option, Some, None, Result, Ok, Err, if◌then◌else◌}
use Rattle.nor_device.specs.FlashSize.{is_flash_size}
use Rattle.partition_table.specs.declared.row.Row.{Row}
use Rattle.partition_table.specs.declared.bad.TableBad.{TableBad}
use Rattle.partition_table.specs.Layout.{Places, layout_of}
use Rattle.partition_table.specs.Table.{table_text}
use Rattle.image_verify.specs.declared.bad.BadImage.{BadImage}
use Rattle.image_verify.specs.Bad.{bad}
use Rattle.flash_text.specs.declared.refusal.Refusal.{Refusal}
use Rattle.flash_text.specs.declared.refusal.Refusal.TheVariants.{FlashSize, Table, Image}
use Rattle.flash_text.specs.ImageText.{length_line}
use Rattle.flash_cli.specs.Answer.{Answer}
use Rattle.flash_cli.specs.TableShow.{file_rows}

-- an erased flash of so many bytes
unfoldable pub erased_flash : ℕ → List ℕ
erased_flash size = replicate size 0xFF

-- a flash with these bytes at this place
abbrev pub with_at : ℕ → List ℕ → List ℕ → List ℕ
with_at at bytes flash = take at flash ++ bytes ++ drop (at + length bytes) flash

-- an erased flash of so many bytes, with the table of these rows at 0x8000 and an image at this
-- place
unfoldable pub flash_with : ℕ → List Row → ℕ → List ℕ → List ℕ
flash_with size rows at image =
    with_at at image (with_at 0x8000 (table_text rows) (erased_flash size))

-- a flash, unless the image shows a fault
abbrev pub unless_bad : Option BadImage → List ℕ → Result (List ℕ) Refusal
unless_bad None flash = Ok flash
unless_bad (Some why) flash = Err (Image why)

-- the flash with the image in the factory partition, which has to have room for it
abbrev pub flash_in_factory : ℕ → List Row → Row → List ℕ → Result (List ℕ) Refusal
flash_in_factory size rows factory image =
    unless_bad (bad factory.size image) (flash_with size rows factory.offset image)

-- the flash by the layout of its rows, or why there is none
abbrev pub flash_by_layout : ℕ → List Row → Result Places TableBad → List ℕ
    → Result (List ℕ) Refusal
flash_by_layout size rows (Ok layout) image = flash_in_factory size rows layout.factory image
flash_by_layout size rows (Err why) image = Err (Table why)

-- the flash by the rows of its table, or why there is none
abbrev pub flash_by_rows : ℕ → Result (List Row) Refusal → List ℕ → Result (List ℕ) Refusal
flash_by_rows size (Ok rows) image = flash_by_layout size rows (layout_of rows) image
flash_by_rows size (Err why) image = Err why

-- the flash of so many bytes with the table of a table file and an image in factory, or the first
-- reason why there is none: its size, the table file's length, the table, its layout, the image
unfoldable pub made_flash : List ℕ → List ℕ → ℕ → Result (List ℕ) Refusal
made_flash table image size =
    if is_flash_size size then flash_by_rows size (file_rows table size) image
    else Err (FlashSize size)

-- the answer of the command with a flash: the file with it, and how long the image is
abbrev pub answer_of_flash : List ℕ → List ℕ → Result (List ℕ) Refusal → Result Answer Refusal
answer_of_flash out image (Ok flash) =
    Ok (record { text = length_line (length image); puts = (out, flash) ∷ [] })
answer_of_flash out image (Err why) = Err why

-- what the command comes to on a table file and an image file
abbrev pub flash_make_answer : List ℕ → List ℕ → ℕ → List ℕ → Result Answer Refusal
flash_make_answer table image size out = answer_of_flash out image (made_flash table image size)
