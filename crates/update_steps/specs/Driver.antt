-- The steps of an update: the data, and behind them the entry that announces them.
use Rattle.std.specs.Prelude.{ℕ, ◌+◌, ◌*◌, ◌/◌, ◌==◌, if◌then◌else◌, List, [], ◌∷◌, ◌++◌, length, slice_get, Option, Some, None}
use Rattle.nor_device.specs.declared.step.Step.{Step}
use Rattle.partition_table.specs.declared.row.Row.{Row}
use Rattle.partition_table.specs.Layout.{Places}
use Rattle.rollback.specs.declared.rewrite.Rewrite.{Rewrite}
use Rattle.image_verify.specs.declared.bad.BadImage.{BadImage}
use Rattle.image_verify.specs.Bad.{bad}
use Rattle.flash_steps.specs.Steps.{erase_steps, pages_in, write_steps}
use Rattle.boot_run.specs.Rewriting.{rewrite}
use Rattle.boot_run.specs.declared.aims.Aim.{Aim}

-- how many bytes the sectors have that so many bytes need
abbrev pub whole_sectors : ℕ → ℕ
whole_sectors len = 4096 * ((len + 4095) / 4096)

-- the erases of the sectors that an image needs, from this address on, ascending
abbrev pub slot_erases : ℕ → List ℕ → List Step
slot_erases at image = erase_steps at (whole_sectors (length image))

-- these erases, and behind them the programs of the image
abbrev pub data_steps : ℕ → List ℕ → List Step
data_steps at image = slot_erases at image ++ write_steps at image

-- the rewrite that announces the new application
abbrev pub next_rewrite : Aim → Rewrite
next_rewrite aim = record { sector = aim.next.sector; entry = aim.next.entry }

-- the data, and behind them the steps of the entry where the image shows no fault
abbrev pub sealed_steps : Option BadImage → List Step → List Step → List Step
sealed_steps None front entry = front ++ entry
sealed_steps (Some why) front entry = front

-- the steps of an update by the bytes of the image: none where there is no byte, the erases alone
-- where the first byte is not that of an image, the erases and the programs where the bytes are no
-- whole image within the partition, else the entry behind them
abbrev pub image_steps : ℕ → Row → Rewrite → List ℕ → List Step
image_steps otadata row next [] = []
image_steps otadata row next (byte ∷ bytes) =
    if byte == 0xE9
    then sealed_steps (bad row.size (byte ∷ bytes)) (data_steps row.offset (byte ∷ bytes))
    (rewrite otadata next)
    else slot_erases row.offset (byte ∷ bytes)

-- those in this partition, where there is one
abbrev pub steps_to : ℕ → Option Row → Rewrite → List ℕ → List Step
steps_to otadata None next image = []
steps_to otadata (Some row) next image = image_steps otadata row next image

-- the steps of an update with this aim
unfoldable pub driver_steps : Places → Aim → List ℕ → List Step
driver_steps layout aim image =
    steps_to layout.otadata (slice_get layout.slots aim.slot) (next_rewrite aim) image

-- how many steps there are of a whole image of so many bytes: a sector each 4096, a program a page,
-- and two of the entry
abbrev pub step_count : ℕ → ℕ → ℕ
step_count at len = (len + 4095) / 4096 + pages_in at len + 2
