-- The flash that an update leaves in which nothing broke off.
use Rattle.std.specs.Prelude.{◌≡◌, ℕ, ◌<◌, ◌≤◌, Bool, List, [], ◌∷◌}
use Rattle.nor_device.specs.declared.step.Step.{Step}
use Rattle.nor_device.specs.Flash.{after_steps, end_of, start_of}
use Rattle.partition_table.specs.Layout.{Places}
use Rattle.rollback.specs.Rewrite.{restated}
use Rattle.boot_run.specs.declared.aims.Aim.{Aim}
use Rattle.boot_run.specs.Rewriting.{rewrite}
use Rattle.update_steps.specs.Driver.{driver_steps}
use Rattle.power_cut.specs.declared.legs.Upto.{Upto}
use Rattle.power_cut.specs.declared.legs.Upto.TheVariants.{Session, Boot, Confirm}
use Rattle.boot_run.specs.BootSteps.{boot_steps}

-- each address of the step is one at which another core may write, or is none
abbrev pub LiesIn : (ℕ → Bool) → Bool → Step → Type 0
LiesIn others may step = (i : ℕ) → start_of step ≤ i → i < end_of step → others i ≡ may

-- so is each address of all of the steps
abbrev pub AllLieIn : (ℕ → Bool) → Bool → List Step → Type 0
AllLieIn others may [] = Unit {0}
AllLieIn others may (step ∷ steps) = LiesIn others may step × AllLieIn others may steps

-- the flash behind a session: the steps of the update are made, and those of the other core
abbrev pub written_flash : Places → Aim → List ℕ → List Step → List ℕ → List ℕ
written_flash layout aim image work flash =
    after_steps (after_steps flash (driver_steps layout aim image)) work

-- behind a boot of a flash
abbrev pub booted_flash : Places → List ℕ → List ℕ
booted_flash layout flash = after_steps flash (boot_steps layout flash)

-- behind the confirmation of the new application: its entry is VALID, and the steps of the other
-- core are made once more
abbrev pub confirmed_flash : Places → Aim → List Step → List ℕ → List ℕ
confirmed_flash layout aim work flash =
    after_steps (after_steps flash (rewrite layout.otadata
    (restated 2 aim.next.sector aim.next.entry))) work

-- behind an update as far as this
abbrev pub installed_flash : Places → Aim → List ℕ → List Step → Upto → List ℕ → List ℕ
installed_flash layout aim image work Session flash = written_flash layout aim image work flash
installed_flash layout aim image work Boot flash =
    booted_flash layout (written_flash layout aim image work flash)
installed_flash layout aim image work Confirm flash =
    confirmed_flash layout aim work
    (booted_flash layout (written_flash layout aim image work flash))
