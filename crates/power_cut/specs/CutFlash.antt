-- The flash that a loss of power leaves in a step of an update, where the other core makes none.
use Rattle.std.specs.Prelude.{ℕ, ◌-◌, List, [], ◌∷◌, ◌++◌, take, drop}
use Rattle.nor_device.specs.declared.step.Step.{Step}
use Rattle.nor_device.specs.Flash.{after_steps}
use Rattle.crash_images.specs.Tear.{torn_by}
use Rattle.partition_table.specs.Layout.{Places}
use Rattle.rollback.specs.Rewrite.{restated}
use Rattle.boot_run.specs.declared.aims.Aim.{Aim}
use Rattle.boot_run.specs.Rewriting.{rewrite}
use Rattle.update_steps.specs.Driver.{driver_steps}
use Rattle.boot_run.specs.BootSteps.{boot_steps}

-- torn by the first of these steps, as the tear number says; as it is, where there is none
abbrev pub torn_by_first : List ℕ → List Step → ℕ → List ℕ
torn_by_first flash [] tear = flash
torn_by_first flash (step ∷ steps) tear = torn_by flash step tear

-- the steps before the k-th one are made, and this one is torn; the first step is step 1, and of
-- fewer steps all are made
abbrev pub cut_in : List ℕ → List Step → ℕ → ℕ → List ℕ
cut_in flash steps k tear =
    torn_by_first (after_steps flash (take (k - 1) steps)) (drop (k - 1) steps) tear

-- the steps of a whole update, in order: those of the session, of the boot of the flash behind it,
-- and of the confirmation
abbrev pub all_steps : Places → Aim → List ℕ → List ℕ → List Step
all_steps layout aim image flash =
    driver_steps layout aim image
    ++ (boot_steps layout (after_steps flash (driver_steps layout aim image))
    ++ rewrite layout.otadata (restated 2 aim.next.sector aim.next.entry))

-- the flash of an update whose power goes off in step k
abbrev pub cut_flash : Places → Aim → List ℕ → List ℕ → ℕ → ℕ → List ℕ
cut_flash layout aim image flash tear k =
    cut_in flash (all_steps layout aim image flash) k tear
