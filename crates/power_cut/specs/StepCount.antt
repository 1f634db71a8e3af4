-- How many steps an update has in which nothing breaks off, by its files and its words.
use Rattle.std.specs.Prelude.{ℕ, ◌+◌, ◌≡◌, ◌≤◌, ◌&&◌, if◌then◌else◌, List, length, Option}
use Rattle.nor_device.specs.declared.step.Step.{Step}
use Rattle.crash_images.specs.Cut.{IsAhead}
use Rattle.partition_table.specs.Layout.{Places}
use Rattle.boot_run.specs.declared.aims.Aim.{Aim}
use Rattle.update_steps.specs.Driver.{driver_steps}
use Rattle.power_cut.specs.declared.legs.Upto.{Upto}
use Rattle.power_cut.specs.declared.legs.Upto.TheVariants.{Session, Boot, Confirm}
use Rattle.power_cut.specs.Installed.{written_flash}
use Rattle.power_cut.specs.Update.{session_end, slot_size}
use Rattle.boot_run.specs.BootSteps.{boot_steps}
use Rattle.power_cut.specs.Whole.{is_done, wants_boot}

-- those of a session: the driver's, by the bytes of the image, and all of the other core
abbrev pub session_count : Places → Aim → List ℕ → List Step → ℕ
session_count layout aim image work = length (driver_steps layout aim image) + length work

-- those of the boot of the flash that the session leaves
abbrev pub boot_count : Places → Aim → List ℕ → List Step → List ℕ → ℕ
boot_count layout aim image work flash =
    length (boot_steps layout (written_flash layout aim image work flash))

-- those of a confirmation, where one is to follow: the two of the entry's rewrite, and all of the
-- other core once more
abbrev pub confirm_count : Upto → List Step → ℕ
confirm_count Session work = 0
confirm_count Boot work = 0
confirm_count Confirm work = 2 + length work

-- those of an update as far as this: a boot follows a session that is made whole
abbrev pub update_count : Places → Aim → List ℕ → List Step → Upto → List ℕ → ℕ
update_count layout aim image work upto flash =
    session_count layout aim image work
    + (if wants_boot upto && is_done (session_end (slot_size layout aim.slot) image)
    then boot_count layout aim image work flash + confirm_count upto work else 0)

-- so many steps were begun of as many as there are: never more, and all where neither chosen step
-- was begun
pub record IsCounted (cut fail : Option ℕ) (begun count : ℕ) : Type 0 where
  pub few : begun ≤ count
  pub all : IsAhead cut begun → IsAhead fail begun → begun ≡ count
