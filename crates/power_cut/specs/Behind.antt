-- What stands behind the data of an update, through the boot and the confirmation.
use Rattle.std.specs.Prelude.{◌≡◌, ℕ, List, length, Some}
use Rattle.nor_device.specs.Nor.{part_of}
use Rattle.partition_table.specs.declared.app.App.TheVariants.{Ota}
use Rattle.partition_table.specs.Layout.{Places}
use Rattle.boot_select.specs.Boots.{entries_in, images_in}
use Rattle.rollback.specs.Pair.{other_of}
use Rattle.rollback.specs.Rewrite.{with_state}
use Rattle.image_layout.specs.Whole.{Whole}
use Rattle.image_verify.specs.Held.{held}
use Rattle.boot_run.specs.declared.aims.Aim.{Aim}
use Rattle.power_cut.specs.Update.{Opens, image_of, slot_size}
use Rattle.boot_run.specs.BootSteps.{boot_steps}

-- seen from the flash at the opening: both applications have their images, which are whole; the
-- table and the entry beside the next one are as they were
pub record IsBehind (layout : Places) (first : List ℕ) (aim : Aim) (image now : List ℕ)
    : Type 0 where
  pub whole : Whole image (slot_size layout aim.slot)
  pub size : length now ≡ length first
  pub table : part_of now 0x8000 0xC00 ≡ part_of first 0x8000 0xC00
  pub old_is : images_in held layout now aim.running ≡ Some (image_of layout first aim.running)
  pub new_is : images_in held layout now (Ota aim.slot) ≡ Some image
  pub other : entries_in layout now (other_of aim.next.sector)
      ≡ entries_in layout first (other_of aim.next.sector)

-- and the next entry is in its sector, in this state
pub record IsAnnounced (layout : Places) (first : List ℕ) (aim : Aim) (image : List ℕ) (state : ℕ)
    (now : List ℕ) : Type 0 where
  pub behind : IsBehind layout first aim image now
  pub here : entries_in layout now aim.next.sector ≡ with_state state aim.next.entry

-- a boot of a flash in which the next entry is announced has two steps: those of the one rewrite that
-- lets the entry wait
abbrev pub AnnouncedBootHasTwoSteps : Type 0
AnnouncedBootHasTwoSteps = (layout : Places) (first : List ℕ) (aim : Aim) (image now : List ℕ)
    → Opens layout first aim image → IsAnnounced layout first aim image 0 now
    → length (boot_steps layout now) ≡ 2
