-- What holds of the flash while an update is made, at every moment of a leg, seen from its opening.
use Rattle.std.specs.Prelude.{◌≡◌, ◌≢◌, ℕ, ◌==◌, Bool, List, [], ◌∷◌, ◌++◌, slice_get, Option, Some, None, if◌then◌else◌}
use Rattle.nor_device.specs.declared.step.Step.{Step}
use Rattle.partition_table.specs.declared.app.App.{App}
use Rattle.partition_table.specs.declared.row.Row.{Row}
use Rattle.partition_table.specs.Layout.{Places}
use Rattle.boot_select.specs.Boots.{images_in}
use Rattle.rollback.specs.declared.rewrite.Rewrite.{Rewrite}
use Rattle.rollback.specs.Boots.{boots_in}
use Rattle.image_verify.specs.declared.bad.BadImage.{BadImage}
use Rattle.image_verify.specs.Bad.{bad}
use Rattle.image_verify.specs.Held.{held}
use Rattle.boot_run.specs.declared.aims.Aim.{Aim}
use Rattle.boot_run.specs.Crashed.{LeavesVerdict}
use Rattle.boot_run.specs.Rewriting.{rewrite}
use Rattle.update_steps.specs.Beside.{StandsBeside}
use Rattle.update_steps.specs.Driver.{driver_steps}
use Rattle.update_steps.specs.Session.{BootsOldOrNew, IsOpening}
use Rattle.power_cut.specs.declared.legs.LegEnd.{LegEnd}
use Rattle.power_cut.specs.declared.legs.LegEnd.TheVariants.{Done, FirstByte, Empty, Bad}

-- an image, or no byte where there is none
abbrev pub bytes_or_none : Option (List ℕ) → List ℕ
bytes_or_none None = []
bytes_or_none (Some image) = image

-- the image that an application has in a flash
abbrev pub image_of : Places → List ℕ → App → List ℕ
image_of layout flash app = bytes_or_none (images_in held layout flash app)

-- the size of a partition, 0 where there is none
abbrev pub size_or_none : Option Row → ℕ
size_or_none None = 0
size_or_none (Some row) = row.size

-- the size of a slot
abbrev pub slot_size : Places → ℕ → ℕ
slot_size layout slot = size_or_none (slice_get layout.slots slot)

-- an update of this image begins on this flash
abbrev pub Opens : Places → List ℕ → Aim → List ℕ → Type 0
Opens layout flash aim image =
    IsOpening layout flash aim (image_of layout flash aim.running) image

-- of what is left boots the application that ran, or, where the new image is whole, the new one, or
-- the entry in the sector of the next one matches by chance, seen from the flash at the opening
abbrev pub BootsEither : Places → List ℕ → Aim → List ℕ → List ℕ → Type 0
BootsEither layout flash aim image left =
    BootsOldOrNew layout flash aim (slot_size layout aim.slot)
    (image_of layout flash aim.running) image left

-- the end of a session in which nothing broke off: by what its bytes show
abbrev pub sealed_end : Option BadImage → LegEnd
sealed_end None = Done
sealed_end (Some why) = Bad why

abbrev pub session_end : ℕ → List ℕ → LegEnd
session_end size [] = Empty
session_end size (byte ∷ bytes) =
    if byte == 0xE9 then sealed_end (bad size (byte ∷ bytes)) else FirstByte byte

-- at every moment of a session beside another core, which may write at the addresses `others`: the
-- first of its steps are made, and the next may be torn; one of both applications boots, but for
-- chance; and some application boots
pub record HoldsUpdate (layout : Places) (flash : List ℕ) (aim : Aim) (image : List ℕ)
    (others : ℕ → Bool) (now : List ℕ) : Type 0 where
  pub made : List Step
  pub rest : List Step
  pub split : driver_steps layout aim image ≡ made ++ rest
  pub stands : StandsBeside flash made rest others now
  pub boots : BootsEither layout flash aim image now
  pub some : boots_in held layout now ≢ None

-- the same of a confirmation: what boots is told by a verdict on the entry that is rewritten
pub record HoldsRewrite (layout : Places) (flash : List ℕ) (write : Rewrite)
    (others : ℕ → Bool) (now : List ℕ) : Type 0 where
  pub made : List Step
  pub rest : List Step
  pub split : rewrite layout.otadata write ≡ made ++ rest
  pub stands : StandsBeside flash made rest others now
  pub boots : LeavesVerdict layout flash write now
  pub some : boots_in held layout now ≢ None
